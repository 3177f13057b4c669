-- Equal reports of a run.
use Rattle.std.proofs.Common.{◌≡◌, ℕ, List, [], Option, refl}
use Rattle.run_report.specs.declared.status.Status.{Status}
use Rattle.run_report.specs.RunReport.{run_of}
use Rattle.run_report.specs.Yield.{Yield, says}

pub same_run : (came came' : List (List ℕ)) (ended ended' : Status) (yields yields' : Yield) (made made' : Option (List ℕ)) → came ≡ came' → ended ≡ ended' → yields ≡ yields' → made ≡ made'
    → run_of came ended yields made ≡ run_of came' ended' yields' made'
same_run came came' ended ended' yields yields' made made' c e y m = rw (c, e, y, m) refl

-- the yield of a run that gives no item to devices
pub said : (yields : Yield) (text : List ℕ) → yields.items ≡ [] → yields.text ≡ text → yields ≡ says text
said yields text none is = let whole : record { text = yields.text; items = yields.items } ≡ says text = rw (none, is) refl in whole

-- a run that prints `text` and gives no item to devices
pub said_run : (came came' : List (List ℕ)) (ended ended' : Status) (yields : Yield) (text : List ℕ) (made made' : Option (List ℕ)) → yields.items ≡ [] → came ≡ came' → ended ≡ ended' → yields.text ≡ text → made ≡ made'
    → run_of came ended yields made ≡ run_of came' ended' (says text) made'
said_run came came' ended ended' yields text made made' none c e t m = same_run came came' ended ended' yields (says text) made made' c e (said yields text none t) m

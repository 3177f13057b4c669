-- Texts that are printed one after the other.
use Rattle.std.proofs.Common.{◌≡◌, ℕ, List, [], ◌++◌, Option, Result, Ok, Err, refl, sym, ap, ◌∙◌, subst, append_assoc, arith}
use Rattle.std.proofs.lemmas.List.{append-nil}
use Rattle.avtp_base.proofs.Told.{Appends-nil, Appends-trans, Appends-kept}
use Rattle.std.specs.Prelude.{IsErr}
use Rattle.avtp_base.specs.Told.{Appends, Keeps}
use Rattle.avtp_base.specs.declared.failed.Failed.{Failed}
use Rattle.avtp_base.specs.Faults.{IsCounted}
use Rattle.avtp_base.specs.States.{SinkState}
use Rattle.avtp_text.specs.Written.{AppendsPrefix, Prints, PrintsPart, written}
use Rattle.avtp_text.proofs.Growth.{grows_further, grows_none}

-- ---- prefixes

-- if nothing was written, a prefix of any text was written: the empty prefix
pub prefix_none : (before now : Option (List ℕ)) (text : List ℕ) → Keeps before now → AppendsPrefix before now text
prefix_none before now text keeps = record { prefix = []; rest = text; split = refl; appends = Appends-kept before before now [] (Appends-nil before) keeps }

-- if `a` was written whole and a prefix of `b` was written after `a`, a prefix of `a ++ b` was written
pub prefix_after : (before mid now : Option (List ℕ)) (a b : List ℕ) → Appends before mid a → AppendsPrefix mid now b → AppendsPrefix before now (a ++ b)
prefix_after before mid now a b first second = record {
  prefix = a ++ second.prefix;
  rest = second.rest;
  split = ap (λ t. a ++ t) second.split ∙ sym (append_assoc a second.prefix second.rest);
  appends = Appends-trans before mid now a second.prefix first second.appends;
}

-- if a prefix of `a` was written, a prefix of `a ++ b` was written
pub prefix_before : (before now : Option (List ℕ)) (a b : List ℕ) → AppendsPrefix before now a → AppendsPrefix before now (a ++ b)
prefix_before before now a b first = record {
  prefix = first.prefix;
  rest = first.rest ++ b;
  split = ap (λ t. t ++ b) first.split ∙ append_assoc first.prefix first.rest b;
  appends = first.appends;
}

pub prefix_whole : (before now : Option (List ℕ)) (a : List ℕ) → Appends before now a → AppendsPrefix before now a
prefix_whole before now a appends = record { prefix = a; rest = []; split = sym (append-nil a); appends = appends }

-- ---- what is printed

pub part_of : {s t : SinkState} {w w' : List ℕ} {result : Result Unit Failed} {text : List ℕ} → Prints s t w w' result text → PrintsPart s t w w' result text
part_of {result = Ok ok} prints = record { written = prints.written; grows = prints.grows; counted = prints.counted }
part_of {result = Err e} prints = record { written = prefix_none _ _ _ prints.written; grows = prints.grows; counted = prints.counted }

pub part_as : {s t : SinkState} {w w' : List ℕ} {result : Result Unit Failed} (a b : List ℕ) → a ≡ b → PrintsPart s t w w' result a → PrintsPart s t w w' result b
part_as a b same prints = subst (PrintsPart _ _ _ _ _) same prints

pub line_as : {s t : SinkState} {w w' : List ℕ} {result : Result Unit Failed} (a b : List ℕ) → a ≡ b → Prints s t w w' result a → Prints s t w w' result b
line_as a b same prints = subst (Prints _ _ _ _ _) same prints

-- a call that does nothing prints the empty text
pub part_none : (s : SinkState) (w : List ℕ) (ok : Unit) → PrintsPart s s w w (Ok ok) []
part_none s w ok = record { written = Appends-nil (written s.held w); grows = grows_none s.held; counted = record { never_falls = omega arith; ok = refl; failed = tt } }

-- if `a` is printed whole, and `b` is then printed whole or in part, `a ++ b` is printed whole or in part
pub part_then : {s t u : SinkState} {w w' w'' : List ℕ} {result : Result Unit Failed} {ok : Unit} (a b : List ℕ)
    → PrintsPart s t w w' (Ok ok) a → PrintsPart t u w' w'' result b → PrintsPart s u w w'' result (a ++ b)
part_then {s} {t} {u} {w} {w'} {w''} {result = Ok o} a b first second = record {
  written = Appends-trans (written s.held w) (written t.held w') (written u.held w'') a b first.written second.written;
  grows = grows_further s.held t.held u.held first.grows second.grows;
  counted = subst (λ (n : ℕ). IsCounted {T = Unit} n u.faults (Ok o)) first.counted.ok second.counted;
}
part_then {s} {t} {u} {w} {w'} {w''} {result = Err e} a b first second = record {
  written = prefix_after (written s.held w) (written t.held w') (written u.held w'') a b first.written second.written;
  grows = grows_further s.held t.held u.held first.grows second.grows;
  counted = subst (λ (n : ℕ). IsCounted {T = Unit} n u.faults (Err e)) first.counted.ok second.counted;
}

-- if printing `a` fails, `a ++ b` is printed in part
pub part_failed : {s t : SinkState} {w w' : List ℕ} {result : Result Unit Failed} {e : Failed} (a b : List ℕ)
    → IsErr result → PrintsPart s t w w' (Err e) a → PrintsPart s t w w' result (a ++ b)
part_failed {result = Ok ok} a b err first = absurd cc
part_failed {s} {t} {w} {w'} {result = Err e'} a b err first = record {
  written = prefix_before (written s.held w) (written t.held w') a b first.written;
  grows = first.grows;
  counted = record { never_falls = first.counted.never_falls; ok = tt; failed = first.counted.failed };
}

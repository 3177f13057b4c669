-- The size of the unit that the next packet completes.
use Rattle.std.proofs.Common.{◌≡◌, ℕ, ◌+◌, ◌≤◌, Bool, true, false, List, [], ◌∷◌, ◌++◌, length, arith, refl, sym, ap, ◌∙◌, length-append}
use Rattle.std.specs.Prelude.{◌&&◌, not, if◌then◌else◌}
use Rattle.cvf_format.specs.WholeOrBroken.{Fragment, Event, packet, begins, completes, whole_unit}
use Rattle.cvf_format.specs.Assembly.{Assembly, StandsFor, longest_body}
use Rattle.cvf_format.specs.state.Assembly.{goes_on_here, has_room, size_with}
use Rattle.cvf_format.proofs.AssemblyLemmas.{pushed_apart, pushed_first, pushed_long, pushed_next}

first_long : (b : Bool) (nal : ℕ) (body : List ℕ) → (if not b then 0 else 1 + length body) ≡ length (if b then nal ∷ body else [])
first_long true nal body = omega arith
first_long false nal body = refl

next_long : (b : Bool) (unit body : List ℕ) → (if not b then 0 else length unit + length body) ≡ length (if b then unit ++ body else [])
next_long true unit body = sym (length-append unit body)
next_long false unit body = refl

abbrev no_bytes : List ℕ
no_bytes = []

none_long : (b : Bool) → (if not b then 0 else 0) ≡ length (no_bytes)
none_long true = refl
none_long false = refl

pub unit_size : (a : Assembly) (events : List Event) (f : Fragment) → length f.body ≤ longest_body → StandsFor a events → size_with a f ≡ length (whole_unit (events ++ packet f ∷ []))
unit_size a events f few s = by (begins f.part) (goes_on_here a f) (has_room a f.body) refl refl refl
  where
    by : (first goes room : Bool) → begins f.part ≡ first → goes_on_here a f ≡ goes → has_room a f.body ≡ room
        → (if not (completes f.part) then 0 else if first then 1 + length f.body else if goes && room then length a.bytes + length f.body else 0) ≡ length (whole_unit (events ++ packet f ∷ []))
    by true goes room e g h = first_long (completes f.part) f.nal f.body ∙ ap length (pushed_first a events f e few s).stands.unit
    by false true true e g h = next_long (completes f.part) a.bytes f.body ∙ ap length (pushed_next a events f g h s).stands.unit
    by false true false e g h = none_long (completes f.part) ∙ ap length (pushed_long a events f g h s).stands.unit
    by false false room e g h = none_long (completes f.part) ∙ ap length (pushed_apart a events f e g s).stands.unit

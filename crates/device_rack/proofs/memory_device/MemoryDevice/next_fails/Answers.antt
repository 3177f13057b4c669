use Rattle.std.proofs.Common.{rules, ◌≡◌, ◌≤◌, ◌+◌, ◌^◌, ◌<◌, slice_index_or, All, Contains, IsTrue, arith, refl, sym, ap, subst, ◌∙◌}
use Rattle.std.proofs.lemmas.List.Elements.{All-from_get_or}
use Rattle.device_rack.proofs.CallLemmas.{later-again, later-last, next_is_told, told_is_next, none_is_told}
use Rattle.device_rack.specs.Devices.{later}
use Rattle.device_rack.proofs.memory_device.MemoryDevice.next_fails.Goals as goal

in_range : (c : goal.In-None) → All (λ n. n ≤ c.args.self.now.calls) c.args.self.now.fails.items
in_range c =
    subst (All (λ n. n ≤ c.args.self.now.calls)) c.as_slice-fails.ensures.value
    (All-from_get_or (λ n. n ≤ c.args.self.now.calls) c.as_slice-fails.result.now 0 (λ i below. let fits : slice_index_or c.as_slice-fails.result.now i 0 < 2 ^ 64 = search rules in omega arith))

pub returns-in-None : goal.returns-in-None
returns-in-None c = record {
  fails = (λ h. absurd (search rules), λ told. absurd (none_is_told _ _ (in_range c) told));
  next = later-last c.args.self.now.calls c.args.self.now.fails.items (in_range c)
      ∙ ap (later 1) (sym (later-last c.args.self.now.calls c.args.self.now.fails.items (in_range c)));
  kept = refl;
  cut = refl;
  faults = refl;
}

pub returns-in-Some : goal.returns-in-Some
returns-in-Some c =
    let number : c.in-Some.number ≡ c.args.self.now.calls + 1 = omega arith in
    let forth : IsTrue c.contains.result → Contains c.args.self.now.fails.items (c.args.self.now.calls + 1) = search rules in
    let back : Contains c.args.self.now.fails.items (c.args.self.now.calls + 1) → IsTrue c.contains.result = search rules in
    record {
      fails = (λ h. next_is_told _ _ (forth h), λ told. back (told_is_next _ _ told));
      next = ap (λ n. later n c.args.self.now.fails.items) number ∙ sym (later-again c.args.self.now.calls c.args.self.now.fails.items);
      kept = refl;
      cut = refl;
      faults = refl;
    }

use Rattle.std.proofs.Common.{◌≡◌, ◌-◌, ◌≤◌, length, take, vec_len, ℕ, ap, refl, ◌∙◌, arith}
use Rattle.avtp_base.proofs.Filling.{refill_front}
use Rattle.avtp_base.proofs.buffer.Buffer.waiting_mut.Goals as goal

pub returns : goal.returns
returns c =
    let len = c.self.inside.len in
    let items = c.self.inside.bytes.items in
    let within : len ≤ length items = omega (arith, c.self.invariant.0, c.self.invariant.1) in
    let waits : take len items ≡ c.args.self.now = c.self.view_is in
    let all : len - 0 ≡ len = omega arith in (
      (refl, λ w. rw (← waits) (refill_front len (vec_len c.self.inside.bytes) items w (omega (arith, c.self.invariant.0, c.self.invariant.1)) within)),
      record { writes_back = tt; value = c.slice_mut.ensures.value ∙ ap (λ (k : ℕ). take k items) all ∙ waits },
    )

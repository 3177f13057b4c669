-- Only private functions and proofs use these definitions. What was shown of deliveries since their
-- hearing began.
use Rattle.std.specs.Prelude.{◌≡◌, ◌<◌, ◌≤◌, ℕ, ℤ, List, [], length, true, None, Result, MatchResult}
use Rattle.avtp_base.specs.declared.failed.NoMemory.{NoMemory as WantOfMemory}
use Rattle.sample_schedule.specs.declared.shown.Shown.{Shown}
use Rattle.listener.specs.Listening.{IsIdle, out}
use Rattle.talker.specs.Talking.{Talking}
use Rattle.soak_run.specs.Captured.{soak_listener}
use Rattle.soak_run.specs.declared.hearing.Hearing.{Hearing}
use Rattle.soak_run.specs.declared.hearing.Stage.TheVariants.{Ended, Giving}
use Rattle.soak_run.specs.state.Hearing.{Shows, closed_at, left_of, pull_at, records_of, steps_left}

-- `begun` and `now` are states of the same hearing, and `items` are the items that it has shown until `now`. If the
-- hearing has ended, `items` are all items of its deliveries.
pub record HasShown (begun now : Hearing) (items : List Shown) : Type 0 where
  pub talker : now.talker ≡ begun.talker
  pub deliveries : now.deliveries.now ≡ begun.deliveries.now
  pub plan : now.listener.plan ≡ begun.listener.plan
  pub shows : Shows (records_of now.talker now.deliveries.now now.given) now.listener items
  pub given_all : closed_at now.stage ≡ true → length now.deliveries.now ≤ now.given
  pub whole : now.stage ≡ Ended → items ≡ out now.listener (records_of now.talker now.deliveries.now now.given)

-- `hearing` is a hearing of these deliveries of the talker's packets, and nothing was given or shown yet
pub record HasBegun (of : Talking) (list : List (ℤ × ℕ)) (hearing : Hearing) : Type 0 where
  pub stage : hearing.stage ≡ Giving
  pub none : HasShown hearing hearing []
  pub plan : hearing.listener.plan ≡ soak_listener
  pub talker : hearing.talker ≡ of
  pub deliveries : hearing.deliveries.now ≡ list

-- deliveries are still being given, and all items that were due so far were shown
pub record IsWaiting (hearing : Hearing) : Type 0 where
  pub giving : hearing.stage ≡ Giving
  pub idle : IsIdle hearing.listener

-- The next delivery was given to the listener, or all had been given and the listener was closed, or memory ran out.
-- What was shown is unchanged, and no more items are left to show than before. If memory did not run out, the hearing
-- has not ended, and fewer steps remain.
pub record GoesOn (old new : Hearing) (result : Result Unit WantOfMemory) : Type 0 where
  pub shows : (begun : Hearing) (items : List Shown) → HasShown begun old items → HasShown begun new items
  pub left : left_of new.deliveries.now new.listener ≤ left_of old.deliveries.now old.listener
  pub on : MatchResult result
      (λ _. (pull_at new.stage ≡ None) × (steps_left new.stage new.deliveries.now new.given < steps_left old.stage old.deliveries.now old.given))
      (λ _. new.stage ≡ Giving)

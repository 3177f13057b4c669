use Rattle.std.proofs.Common.{refl, pos, arith}
use Rattle.stream_journal.proofs.Clocked.{first_two, joined_is, second_two}
use Rattle.stream_journal.proofs.TrueClock.{at_place}
use Rattle.stream_journal.proofs.examples.samples_are_clocked.Goals as goal

pub returns-clause-own : goal.returns-clause-own
returns-clause-own c = record {
  head = record { instant = pos 1006125000; first = pos 0 };
  is_head = refl;
  earlier = record { packet = 0; at = 1 };
  later = record { packet = 1; at = 0 };
  joined = joined_is 48000 (omega arith) (omega arith) (at_place 0 1) (at_place 1 0) (second_two 48000) refl;
  covers = record { from = omega arith; to = omega arith };
  at = refl;
}

pub returns-clause-other : goal.returns-clause-other
returns-clause-other c = record {
  head = record { instant = pos 1006125000; first = pos 0 };
  is_head = refl;
  earlier = record { packet = 0; at = 1 };
  later = record { packet = 1; at = 0 };
  joined = joined_is 44100 (omega arith) (omega arith) (at_place 0 1) (at_place 1 0) (second_two 44100) refl;
  covers = record { from = omega arith; to = omega arith };
  at = refl;
}

pub returns-clause-first : goal.returns-clause-first
returns-clause-first c = record {
  head = record { instant = pos 1004000000; first = pos 0 };
  is_head = refl;
  earlier = record { packet = 0; at = 0 };
  later = record { packet = 0; at = 1 };
  joined = joined_is 44100 (omega arith) (omega arith) (at_place 0 0) (at_place 0 1) (first_two 44100) refl;
  covers = record { from = omega arith; to = omega arith };
  at = refl;
}

pub returns-clause-next : goal.returns-clause-next
returns-clause-next c = record {
  head = record { instant = pos 1004125000; first = pos 0 };
  is_head = refl;
  earlier = record { packet = 0; at = 0 };
  later = record { packet = 0; at = 1 };
  joined = joined_is 44100 (omega arith) (omega arith) (at_place 0 0) (at_place 0 1) (first_two 44100) refl;
  covers = record { from = omega arith; to = omega arith };
  at = refl;
}

use Rattle.std.proofs.Common.{pos, refl}
use Rattle.packet_journal.specs.Examples.{clocked_packets}
use Rattle.listener_laws.specs.Examples.{clocked_listener, swapped, swapped_records}
use Rattle.listener_laws.proofs.Swapped.{all_carried, comes_again, must_be}
use Rattle.listener_laws.proofs.examples.clocked_copies_are_so.Goals as goal

pub returns-clause-heard : goal.returns-clause-heard
returns-clause-heard c = c.carried_packets_are_heard.ensures.audio (pos 1000) clocked_packets clocked_listener swapped swapped_records c.clocked_packets_conform.ensures tt refl (refl, refl) all_carried

pub returns-clause-first : goal.returns-clause-first
returns-clause-first c = must_be (record {
  stream = λ n r. c.carried_packet_is_delivered.ensures.belongs (pos 1000) clocked_packets 2000000 n r c.clocked_packets_conform.ensures;
  copy = λ n frame r. c.carried_packet_is_delivered.ensures.copy clocked_packets 2000000 n frame r;
  clock = λ m r. c.carried_clock_packet_is_delivered.ensures.belongs (pos 1000) clocked_packets m r c.clocked_packets_conform.ensures;
  clock_copy = λ m frame r. c.carried_clock_packet_is_delivered.ensures.copy clocked_packets m frame r;
})

pub returns-clause-second : goal.returns-clause-second
returns-clause-second c = comes_again (record {
  stream = λ n r. c.carried_packet_is_delivered.ensures.belongs (pos 1000) clocked_packets 2000000 n r c.clocked_packets_conform.ensures;
  copy = λ n frame r. c.carried_packet_is_delivered.ensures.copy clocked_packets 2000000 n frame r;
  clock = λ m r. c.carried_clock_packet_is_delivered.ensures.belongs (pos 1000) clocked_packets m r c.clocked_packets_conform.ensures;
  clock_copy = λ m frame r. c.carried_clock_packet_is_delivered.ensures.copy clocked_packets m frame r;
})

use Rattle.talk_clock.proofs.ClockPoints.{counted, restarted_bit, restarted_points, steady_points}
use Rattle.talker.proofs.TalkLemmas.{clocked_plan}
use Rattle.talker.proofs.laws.clocks_are_paced.Goals as goal

pub returns-clause-points : goal.returns-clause-points
returns-clause-points c = λ plan crf packets s p e. counted plan crf packets s (clocked_plan plan crf p e) e

pub returns-clause-steady : goal.returns-clause-steady
returns-clause-steady c = λ plan crf s p e none. steady_points plan crf s (clocked_plan plan crf p e) e none

pub returns-clause-restarting : goal.returns-clause-restarting
returns-clause-restarting c = λ plan crf packets s p e f. restarted_points plan crf packets s (clocked_plan plan crf p e) e f

pub returns-clause-bit : goal.returns-clause-bit
returns-clause-bit c = λ plan crf packets m p e f. restarted_bit plan crf packets m (clocked_plan plan crf p e) e f

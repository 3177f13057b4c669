-- Only private functions and proofs use these definitions. What the calls that read words answer: a
-- value, or that there is none.
use Rattle.std.specs.Prelude.{◌≡◌, ℕ, ◌≤◌, List, length, Result, IfOk, IfErr, String}
use Rattle.std.specs.declared.alloc.Global.{Global}
use Rattle.avtp_words.specs.declared.command.Command.{Command}
use Rattle.avtp_words.specs.declared.command.Offence.{Offence}
use Rattle.avtp_words.specs.declared.listen.Listen.{Listen}
use Rattle.avtp_words.specs.declared.listener.ListenerOptions.{ListenerOptions}
use Rattle.option_words.specs.declared.operand.Operand.{Operand}
use Rattle.avtp_words.specs.declared.talk.Kind.{Kind}
use Rattle.avtp_words.specs.declared.talk.Talk.{Talk}
use Rattle.avtp_words.specs.Grammar.{IsCommandLine, IsOffence, listening_of, request_of, talking_of}
use Rattle.option_words.specs.Options.{Row}
use Rattle.option_words.specs.Word.{texts}
use Rattle.avtp_words.specs.state.Reading.{AreHeard, AreRead, IsReadListener, StopsAfter}
use Rattle.option_words.specs.Lines.{IsRest, IsRestTo}

-- At `Ok`, the result is the index of the first operand. At `Err`, it is the offence at the first wrong word.
pub record FindsOperands (rows : List Row) (operands : List Operand) (words : List (String Global)) (result : Result ℕ Offence) : Type 0 where
  pub ok : IfOk result (IsRestTo rows operands (texts words))
  pub within : IfOk result (λ place. place ≤ length words)
  pub err : IfErr result (λ offence. StopsAfter (IsRest rows operands) (texts words) offence.position)

-- At `Ok`, the result is what the command line says. At `Err`, it is the offence of the line.
pub record Reads {T : Type 0} (Says : List (List ℕ) → T → Type 0) (line : List (List ℕ)) (result : Result T Offence) : Type 0 where
  pub ok : IfOk result (Says line)
  pub err : IfErr result (λ offence. IsOffence line offence.position)

-- the command line asks for this command
abbrev pub Asks : List (List ℕ) → Command → Type 0
Asks line command = IsCommandLine line (request_of command)

-- the listener is the one to `stream` that the options ask for
pub record ReadsListener (options : List (List ℕ)) (stream : ℕ) (asked : ListenerOptions) : Type 0 where
  pub stream_is : asked.stream ≡ stream
  pub read : IsReadListener options asked

-- what `listen` is asked for is the listener to `stream`, what the options ask for, and the captures `files`
pub record ReadsListen (options : List (List ℕ)) (stream : ℕ) (files : List (String Global)) (asked : Listen) : Type 0 where
  pub stream_is : asked.listener.stream ≡ stream
  pub files_are : asked.files.now ≡ files
  pub read : AreHeard options (listening_of asked)

-- what `talk` is asked for is a stream of this kind, what the options ask for, the input, and the output
pub record ReadsTalk (options : List (List ℕ)) (kind : Kind) (input output : List ℕ) (asked : Talk) : Type 0 where
  pub kind_is : asked.kind ≡ kind
  pub input_is : asked.input.now ≡ input
  pub output_is : asked.output.now ≡ output
  pub read : AreRead options (talking_of asked)

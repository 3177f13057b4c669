-- The command lines of each command, and their offences.
use Rattle.std.proofs.Common.{Contains, ◌↔◌, ◌-◌, ◌*◌, ◌≤◌, IsTrue, Bool, ◌≡◌, ◌≢◌, ℕ, zero, suc, ◌+◌, ◌<◌, ◌^◌, ◌⊎◌, inl, inr, true, false, List, [], ◌∷◌, ◌++◌, flat_map, length, take, drop, Option, Some, None, slice_get, get_or, IfSome, arith, sym, subst, ap, ◌∙◌, refl, append_assoc, length-append, codes, string_bytes, String, pos}
use Rattle.option_words.specs.Operands.{most_packets, AreOperands}
use Rattle.std.specs.Prelude.{Result, Ok, Err, IsOkAnd, IsErrAnd, MatchOption}
use Rattle.std.specs.Str.{bytes_eq}
use Rattle.std.specs.declared.alloc.Global.{Global}
use Rattle.std.proofs.lemmas.Bool.{cases_Bool}
use Rattle.std.proofs.lemmas.List.{append-nil}
use Rattle.std.proofs.Math.Seq.{drop-append-add}
use Rattle.std.proofs.lemmas.List.Elements.{All-nil}
use Rattle.aaf_format.specs.declared.aaf.AafFormat.TheVariants.{Int16}
use Rattle.option_words.specs.declared.option.Takes.{Takes}
use Rattle.option_words.specs.declared.option.Takes.TheVariants as takes
use Rattle.avtp_words.specs.declared.command.Command.{Command}
use Rattle.avtp_words.specs.declared.talk.Kind.{Kind}
use Rattle.avtp_words.specs.declared.talk.Kind.TheVariants.{Aaf, Am824, H264}
use Rattle.avtp_words.specs.declared.command.Offence.{Offence}
use Rattle.avtp_words.specs.declared.gateway.GatewayFormat.{GatewayFormat}
use Rattle.avtp_words.specs.declared.gateway.GatewayFormat.TheVariants as format
use Rattle.avtp_words.specs.declared.crf.Crf.{Crf}
use Rattle.avtp_words.specs.declared.device.Silence.{Silence}
use Rattle.avtp_words.specs.declared.device.Silence.TheVariants.{Zero, Am824 as Blocks}
use Rattle.avtp_words.specs.Given.{IsGiven, IsGivenId, IsGivenIdIf, IsGivenIf, IsGivenSilence}
use Rattle.option_words.specs.Number.{IsNumber}
use Rattle.avtp_words.specs.declared.listener.ListenerOptions.{ListenerOptions}
use Rattle.avtp_words.specs.state.Answers.{Asks, Reads}
use Rattle.avtp_words.specs.state.Operands.{NameStreamAndTwo}
use Rattle.avtp_words.specs.state.Reading.{IsReadListener, ClockIsWithin, StopsAfter, IsReadClock, IsReadKind, IsReadFile, IsReadRaw, IsReadSilence, ReadsFile, AreHeard, AreRead}
use Rattle.option_words.specs.Lines.{IsRest, IsRestTo, Begins, Stops, StopsAt}
use Rattle.option_words.specs.Tables.{are_sound}
use Rattle.option_words.specs.Values.{value_after, IsRead, IsReadId, IsReadIdIf, IsReadIf, IsReadSigned, IsReadFormat}
use Rattle.option_words.specs.Word.{texts, BeginsWithDash, IsId}
use Rattle.avtp_words.specs.Limits as limits
use Rattle.avtp_words.specs.Limits.{NumberOption, default_rate, number, signed, with_default}
use Rattle.option_words.specs.Options.{Row, row_named, Setting, words_of, IsValue, IsSetting, stands_alone, value_in}
use Rattle.avtp_words.specs.Grammar.{gateway_format_name, request_of, Request, Agreeing, Listening, Talking, Turning, show, check, listen, talk, soak, agree, gateway, Form, form_named, show_form, check_form, listen_form, talk_form, soak_form, agree_form, gateway_form, IsOf, IsShow, IsCheck, IsGivenFile, IsGivenRaw, IsSoak, NamedFile, NamedRaw, NamesFile, SaysAgree, SaysClock, SaysGateway, SaysKind, SaysListen, SaysListener, SaysTalk, KeepsNames, KeepsOutput, KeepsRules, IsCommandLine, IsLine, IsOffence, of_a_word, of_a_rule}
use Rattle.option_words.proofs.Settings.{same-true}
use Rattle.avtp_words.proofs.CommandLines.{same_line, number_given, number_given_if, id_given, id_given_if, signed_given, format_given, within, same_number, same_number_if, same_id, same_id_given, same_id_given_if, same_signed, same_format_given}
use Rattle.option_words.proofs.Lines.{left_is, value_is, value-after, options_to, words_after, beyond}
use Rattle.avtp_words.proofs.Clocks.{clock_within, same_clock}
use Rattle.avtp_words.proofs.Devices.{same_file, same_raw}
use Rattle.option_words.proofs.Numbers.{spells_one}
use Rattle.option_words.proofs.Operands.{names}
use Rattle.option_words.proofs.Steps.{words_before, after_first}

-- ---- a command's name and more words are a line if and only if these words fit the command's form

of_rest : (form : Form) (words : List (List ℕ)) (r : IsRest form.rows form.operands words) → IsOf form (form.command ∷ words) r.settings r.names
of_rest form words r = record { spelled = ap (λ ws. form.command ∷ ws) r.spelled; options = r.options; operands = r.named }

line_of_rest : (form : Form) (words : List (List ℕ)) → form_named form.command ≡ Some form → IsRest form.rows form.operands words → IsLine (form.command ∷ words)
line_of_rest form words known r = record { form = form; known = known; settings = r.settings; names = r.names; line = of_rest form words r }

rest_of_line : (form : Form) (words : List (List ℕ)) → form_named form.command ≡ Some form → IsLine (form.command ∷ words) → IsRest form.rows form.operands words
rest_of_line form words known l =
    let command : form.command ≡ l.form.command = cc (l.line.spelled) in
    let found : Some form ≡ Some l.form = sym known ∙ ap form_named command ∙ l.known in
    let same : l.form ≡ form = cc in
    subst (λ f. IsRest f.rows f.operands words) same (record { settings = l.settings; names = l.names; spelled = (cc (l.line.spelled)); options = l.line.options; named = l.line.operands })

pub offence_after : (form : Form) (words : List (List ℕ)) (position : ℕ) → form_named form.command ≡ Some form → StopsAfter (IsRest form.rows form.operands) words position → IsOffence (form.command ∷ words) position
offence_after form words position known b = of_a_word (b.place + 1) (omega (arith, b.here)) (record {
  before = form.command ∷ s.before;
  rest = s.rest;
  split = ap (λ ws. form.command ∷ ws) s.split;
  here = omega (arith, s.here);
  begins = record { more = s.begins.more; whole = line_of_rest form (s.before ++ s.begins.more) known s.begins.whole };
  stops = go s.rest s.stops;
}) where
  s : StopsAt (IsRest form.rows form.operands) words b.place
  s = b.stops

  go : (rest : List (List ℕ)) → Stops (IsRest form.rows form.operands) s.before rest → Stops IsLine (form.command ∷ s.before) rest
  go [] never = λ line. never (rest_of_line form s.before known line)
  go (word ∷ rest) never = λ c. never (record { more = c.more; whole = rest_of_line form ((s.before ++ word ∷ []) ++ c.more) known c.whole })

-- a command line fits the form of its command
abbrev line_of : (words : List (List ℕ)) (request : Request) → IsCommandLine words request → IsLine words
line_of words (show limit file) s = record { form = show_form; known = refl; settings = s.settings; names = file ∷ []; line = s.line }
line_of words (check limit files) s = record { form = check_form; known = refl; settings = s.settings; names = files; line = s.line }
line_of words (listen asked) (s, rules) = record { form = listen_form; known = refl; settings = s.settings; names = s.id ∷ asked.files; line = s.line }
line_of words (soak packets) s = record { form = soak_form; known = refl; settings = s.settings; names = s.number ∷ []; line = s.line }
line_of words (agree asked) s = record { form = agree_form; known = refl; settings = s.settings; names = s.id ∷ asked.a ∷ asked.b ∷ []; line = s.line }
line_of words (gateway asked) (s, rules) = record { form = gateway_form; known = refl; settings = s.settings; names = s.id ∷ asked.input ∷ asked.output ∷ []; line = s.line }
line_of words (talk asked) (s, rules) = record { form = talk_form; known = refl; settings = s.settings; names = asked.input ∷ asked.output ∷ []; line = s.line }

-- ---- no command

-- there is no word, or the first word is not a command's name
abbrev pub IsNoCommand : List (List ℕ) → Type 0
IsNoCommand words = IfSome (slice_get words 0) (λ word. form_named word ≡ None)

pub offence_of_command : (words : List (List ℕ)) → IsNoCommand words → IsOffence words 1
offence_of_command words other = of_a_word 0 refl (record {
  before = [];
  rest = words;
  split = refl;
  here = refl;
  begins = record { more = codes "show" ∷ (codes "a" ∷ []); whole = line_of_rest show_form (codes "a" ∷ []) refl (record { settings = []; names = codes "a" ∷ []; spelled = refl; options = record { each = All-nil (IsSetting show_form.rows); once = λ i j d lt within. absurd (omega (arith, within)) }; named = (λ e. absurd (omega (arith, e)), tt) }) };
  stops = go words other;
}) where
  nothing_asked : IsLine [] → ⊥
  nothing_asked l = absurd (let spelled = l.line.spelled in cc)

  first_known : (word : List ℕ) (more : List (List ℕ)) → IsLine (word ∷ more) → form_named word ≡ None → ⊥
  first_known word more l none =
      let command : word ≡ l.form.command = cc (l.line.spelled) in
      let no : Some l.form ≡ None = sym l.known ∙ ap form_named (sym command) ∙ none in cc

  go : (rest : List (List ℕ)) → IsNoCommand rest → Stops IsLine [] rest
  go [] none = λ line. nothing_asked line
  go (word ∷ rest) none = λ b. first_known word b.more b.whole none

words_are : (words rest : List (String Global)) (command : String Global) (name : List ℕ) → words ≡ command ∷ rest → string_bytes command ≡ name → texts words ≡ name ∷ texts rest
words_are words rest command name e same = ap texts e ∙ ap (λ (first : List ℕ). first ∷ texts rest) same

differs : (name word : List ℕ) → (word ≡ name → ⊥) → bytes_eq name word ≡ false
differs name word other = elim (cases_Bool (bytes_eq name word)) [ inl same ↦ absurd (other (sym (same-true name word same))) | inr unlike ↦ unlike ]

no_form : (word : List ℕ) → (word ≡ codes "show" → ⊥) → (word ≡ codes "check" → ⊥) → (word ≡ codes "listen" → ⊥) → (word ≡ codes "talk" → ⊥) → (word ≡ codes "soak" → ⊥) → (word ≡ codes "agree" → ⊥) → (word ≡ codes "gateway" → ⊥) → form_named word ≡ None
no_form word not_show not_check not_listen not_talk not_soak not_agree not_gateway =
    rw (
      differs (codes "show") word not_show,
      differs (codes "check") word not_check,
      differs (codes "listen") word not_listen,
      differs (codes "talk") word not_talk,
      differs (codes "soak") word not_soak,
      differs (codes "agree") word not_agree,
      differs (codes "gateway") word not_gateway,
    ) refl

pub other_first : (words rest : List (String Global)) (command : String Global) → words ≡ command ∷ rest → (string_bytes command ≡ codes "show" → ⊥) → (string_bytes command ≡ codes "check" → ⊥) → (string_bytes command ≡ codes "listen" → ⊥) → (string_bytes command ≡ codes "talk" → ⊥) → (string_bytes command ≡ codes "soak" → ⊥) → (string_bytes command ≡ codes "agree" → ⊥) → (string_bytes command ≡ codes "gateway" → ⊥) → IsNoCommand (texts words)
other_first words rest command e not_show not_check not_listen not_talk not_soak not_agree not_gateway = rw e (no_form (string_bytes command) not_show not_check not_listen not_talk not_soak not_agree not_gateway)

pub none_first : (words : List (String Global)) → length words ≡ 0 → IsNoCommand (texts words)
none_first [] e = tt
none_first (word ∷ words) e = absurd (omega (arith, e))

-- ---- what the code has read

-- if the option `name` takes a value, the word after `name` is the option's value
after_options : (form : Form) (words : List (String Global)) (place : ℕ) (r : IsRestTo form.rows form.operands (texts words) place) (name : List ℕ) (row : Row) → are_sound form.rows ≡ true → row_named form.rows name ≡ Some row → stands_alone row.takes ≡ false → value_after name (texts (take place words)) ≡ value_in name r.rest.settings
after_options form words place r name row sound is_row wanted = ap (value_after name) (words_before form.rows words place (options_to form.rows form.operands (texts words) place r)) ∙ value-after form.rows r.rest.settings name row sound r.rest.options.each is_row wanted

number_is : (form : Form) (words : List (String Global)) (place : ℕ) (r : IsRestTo form.rows form.operands (texts words) place) (option : NumberOption) (default bound n : ℕ) → are_sound form.rows ≡ true → row_named form.rows option.name ≡ Some (number option) → option.default ≡ Some default → option.high < bound → IsRead bound default (value_after option.name (texts (take place words))) n → IsGiven option r.rest.settings n
number_is form words place r option default bound n sound is_row has small reads =
    number_given option default bound n (value_in option.name r.rest.settings) has small (value_is form.rows option.name (number option) r.rest.settings is_row r.rest.options.each)
    (subst (λ v. IsRead bound default v n) (after_options form words place r option.name (number option) sound is_row refl) reads)

-- operand `k` is the word at index `place + k`; operands are counted from 0
operand_at : (form : Form) (words : List (List ℕ)) (place k : ℕ) (r : IsRestTo form.rows form.operands words place) → slice_get words (place + k) ≡ slice_get r.rest.names k
operand_at form words place k r = ap (λ n. slice_get words (n + k)) r.here ∙ ap (λ ws. slice_get ws (length (flat_map words_of r.rest.settings) + k)) r.rest.spelled ∙ beyond (flat_map words_of r.rest.settings) r.rest.names k

first_operand : (form : Form) (words : List (List ℕ)) (place : ℕ) (r : IsRestTo form.rows form.operands words place) → slice_get words place ≡ slice_get r.rest.names 0
first_operand form words place r = ap (slice_get words) {y = place + 0} (omega arith) ∙ operand_at form words place 0 r

-- ---- a listener

-- The command of `form` has all options of a listener.
record MakesListener (form : Form) : Type 0 where
  sound : are_sound form.rows ≡ true
  limit : row_named form.rows limits.limit.name ≡ Some (number limits.limit)
  buffer : row_named form.rows limits.buffer.name ≡ Some (number limits.buffer)
  room : row_named form.rows limits.room.name ≡ Some (number limits.room)
  look : row_named form.rows limits.look.name ≡ Some (number limits.look)
  lead : row_named form.rows limits.listen_lead.name ≡ Some (number limits.listen_lead)
  clock : row_named form.rows (codes "--clock") ≡ Some (record { name = codes "--clock"; takes = takes.Id })
  shift : row_named form.rows limits.crf_shift.name ≡ Some (signed limits.crf_shift)

listener_says : (form : Form) (words : List (String Global)) (place : ℕ) (r : IsRestTo form.rows form.operands (texts words) place) (id : List ℕ) (asked : ListenerOptions) → MakesListener form → IsId id asked.stream → IsReadListener (texts (take place words)) asked → SaysListener r.rest.settings id asked
listener_says form words place r id asked makes is read = record {
  stream = is;
  limit = number_is form words place r limits.limit (2 ^ 40) (2 ^ 64) asked.limit makes.sound makes.limit refl (omega arith) read.limit;
  buffer = number_is form words place r limits.buffer 4096 (2 ^ 32) asked.buffer makes.sound makes.buffer refl (omega arith) read.buffer;
  room = number_is form words place r limits.room (2 ^ 26) (2 ^ 32) asked.room makes.sound makes.room refl (omega arith) read.room;
  look = number_is form words place r limits.look 0 (2 ^ 32) asked.look makes.sound makes.look refl (omega arith) read.look;
  lead = number_is form words place r limits.listen_lead 2000000 (2 ^ 32) asked.lead makes.sound makes.lead refl (omega arith) read.lead;
  clock = id_given_if asked.clock (value_in clock.name r.rest.settings) (value_is form.rows clock.name clock r.rest.settings makes.clock r.rest.options.each)
      (subst (λ v. IsReadIdIf v asked.clock) (after_options form words place r clock.name clock makes.sound makes.clock refl) read.clock);
  shift = signed_given limits.crf_shift.most limits.crf_shift.default asked.shift (value_in shift.name r.rest.settings) (omega arith) (value_is form.rows shift.name shift r.rest.settings makes.shift r.rest.options.each)
      (subst (λ v. IsReadSigned limits.crf_shift.default v asked.shift) (after_options form words place r shift.name shift makes.sound makes.shift refl) read.shift);
} where
  clock : Row
  clock = record { name = codes "--clock"; takes = takes.Id }

  shift : Row
  shift = signed limits.crf_shift

-- ---- show

pub show_operand : (words : List (List ℕ)) (place : ℕ) → IsRestTo show_form.rows show_form.operands words place → slice_get words place ≡ None → ⊥
show_operand words place r none = go r.rest.names r.rest.named (sym (first_operand show_form words place r) ∙ none) where
  go : (ns : List (List ℕ)) → AreOperands show_form.operands ns → slice_get ns 0 ≡ None → ⊥
  go [] named none = absurd named
  go (file ∷ ns) named none = absurd cc

pub show_is : (words : List (String Global)) (place : ℕ) (file : List ℕ) (limit : ℕ) → IsRestTo show_form.rows show_form.operands (texts words) place → slice_get (texts words) place ≡ Some file → IsRead (2 ^ 64) (2 ^ 40) (value_after (codes "--limit") (texts (take place words))) limit → IsShow (codes "show" ∷ texts words) limit file
show_is words place file limit r here reads = go r.rest.names r.rest.spelled r.rest.named (sym (first_operand show_form (texts words) place r) ∙ here) where
  gs : List Setting
  gs = r.rest.settings

  go : (ns : List (List ℕ)) → texts words ≡ flat_map words_of gs ++ ns → AreOperands show_form.operands ns → slice_get ns 0 ≡ Some file → IsShow (codes "show" ∷ texts words) limit file
  go [] spelled named first = absurd named
  go (name ∷ []) spelled named first =
      let same : name ≡ file = cc in
      record {
        settings = gs;
        line = record { spelled = ap (λ ws. codes "show" ∷ ws) (spelled ∙ ap (λ (n : List ℕ). flat_map words_of gs ++ n ∷ []) same); options = r.rest.options; operands = subst (λ n. AreOperands show_form.operands (n ∷ [])) same named };
        limit_given = number_is show_form words place r limits.limit (2 ^ 40) (2 ^ 64) limit refl refl refl (omega arith) reads;
      }
  go (name ∷ more ∷ ns) spelled named first = absurd named.1

-- ---- check

pub check_is : (words : List (String Global)) (place limit : ℕ) (files : List (List ℕ)) → IsRestTo check_form.rows check_form.operands (texts words) place → drop place (texts words) ≡ files → IsRead (2 ^ 64) (2 ^ 40) (value_after (codes "--limit") (texts (take place words))) limit → IsCheck (codes "check" ∷ texts words) limit files
check_is words place limit files r next reads =
    let same : r.rest.names ≡ files = sym (left_is check_form.rows (texts words) place (options_to check_form.rows check_form.operands (texts words) place r)) ∙ next in
    record {
      settings = r.rest.settings;
      line = subst (IsOf check_form (codes "check" ∷ texts words) r.rest.settings) same (of_rest check_form (texts words) r.rest);
      limit_given = number_is check_form words place r limits.limit (2 ^ 40) (2 ^ 64) limit refl refl refl (omega arith) reads;
    }

-- ---- listen

-- The words after `listen` are options, then the stream ID at index `place`, then the names of files.
pub record IdAndNames (words : List (List ℕ)) (place : ℕ) (settings : List Setting) : Type 0 where
  pub id : List ℕ
  pub files : List (List ℕ)
  pub line : IsOf listen_form (codes "listen" ∷ words) settings (id ∷ files)
  pub at_id : slice_get words place ≡ Some id
  pub at_files : drop (place + 1) words ≡ files

id_and_names : (words : List (List ℕ)) (place : ℕ) (r : IsRestTo listen_form.rows listen_form.operands words place) → IdAndNames words place r.rest.settings
id_and_names words place r = go r.rest.names r.rest.spelled r.rest.named (first_operand listen_form words place r) where
  gs : List Setting
  gs = r.rest.settings

  go : (ns : List (List ℕ)) → words ≡ flat_map words_of gs ++ ns → AreOperands listen_form.operands ns → slice_get words place ≡ slice_get ns 0 → IdAndNames words place gs
  go [] spelled named at_first = absurd named
  go (id ∷ files) spelled named at_first = record {
    id = id;
    files = files;
    line = record { spelled = ap (λ ws. codes "listen" ∷ ws) spelled; options = r.rest.options; operands = named };
    at_id = at_first;
    at_files = ap (λ n. drop (n + 1) words) r.here ∙ ap (drop (length (flat_map words_of gs) + 1)) spelled ∙ drop-append-add (flat_map words_of gs) (id ∷ files) 1;
  }

pub listen_stands : (words : List (List ℕ)) (place : ℕ) → IsRestTo listen_form.rows listen_form.operands words place → slice_get words place ≡ None → ⊥
listen_stands words place r none = let t = id_and_names words place r in let both = sym t.at_id ∙ none in cc

pub listen_id : (words : List (List ℕ)) (place : ℕ) (word : List ℕ) → IsRestTo listen_form.rows listen_form.operands words place → slice_get words place ≡ Some word → ((stream : ℕ) → IsId word stream → ⊥) → ⊥
listen_id words place word r here none =
    let t = id_and_names words place r in
    let both = sym t.at_id ∙ here in
    let same : t.id ≡ word = cc in
    let id = t.line.operands.0 in
    none id.0 (subst (λ w. IsId w id.0) same id.1)

listen_line : (words : List (List ℕ)) (place : ℕ) (settings : List Setting) (t : IdAndNames words place settings) (id : List ℕ) (files : List (List ℕ)) → slice_get words place ≡ Some id → drop (place + 1) words ≡ files → IsOf listen_form (codes "listen" ∷ words) settings (id ∷ files)
listen_line words place settings t id files at_id at_files =
    let ids : t.id ≡ id = (let e = sym t.at_id ∙ at_id in cc) in
    let names : t.files ≡ files = sym t.at_files ∙ at_files in
    subst (λ (n : List (List ℕ)). IsOf listen_form (codes "listen" ∷ words) settings (id ∷ n)) names (subst (λ (n : List ℕ). IsOf listen_form (codes "listen" ∷ words) settings (n ∷ t.files)) ids t.line)

among_first : (ws more : List (List ℕ)) (k : ℕ) (word : List ℕ) → slice_get ws k ≡ Some word → slice_get (ws ++ more) k ≡ Some word
among_first [] more k word e = absurd cc
among_first (w ∷ ws) more zero word e = e
among_first (w ∷ ws) more (suc k) word e = among_first ws more k word e

pub listen_says : (words : List (String Global)) (place : ℕ) (id : List ℕ) (asked : Listening) → IsRestTo listen_form.rows listen_form.operands (texts words) place
    → slice_get (texts words) place ≡ Some id → IsId id asked.listener.stream → drop (place + 1) (texts words) ≡ asked.files
    → AreHeard (texts (take place words)) asked → SaysListen (codes "listen" ∷ texts words) asked
listen_says words place id asked r here is next read = record {
  settings = gs;
  id = id;
  line = listen_line (texts words) place gs (id_and_names (texts words) place r) id asked.files here next;
  listener = listener_says listen_form words place r id asked.listener (record { sound = refl; limit = refl; buffer = refl; room = refl; look = refl; lead = refl; clock = refl; shift = refl }) is read.listener;
  ring = number_is listen_form words place r limits.ring 64 (2 ^ 32) asked.ring refl refl refl (omega arith) read.ring;
  raw = raw_says asked.raw read.raw;
  annexb = file_says (codes "--annexb") refl asked.annexb read.annexb;
} where
  gs : List Setting
  gs = r.rest.settings

  -- the word at index `k` of the options is at index `k + 1` of the command line, because the command is word 0
  after_command : (k : ℕ) (word : List ℕ) → slice_get (texts (take place words)) k ≡ Some word → slice_get (codes "listen" ∷ texts words) (k + 1) ≡ Some word
  after_command k word e =
      let before : texts (take place words) ≡ flat_map words_of gs = words_before listen_form.rows words place (options_to listen_form.rows listen_form.operands (texts words) place r) in
      ap (slice_get (codes "listen" ∷ texts words)) {x = k + 1} {y = suc k} (omega arith) ∙ ap (λ ws. slice_get ws k) r.rest.spelled
      ∙ among_first (flat_map words_of gs) r.rest.names k word (subst (λ ws. slice_get ws k ≡ Some word) before e)

  named : List ℕ → Row
  named name = record { name = name; takes = takes.Name }

  file_named : (name : List ℕ) (file : NamedFile) → row_named listen_form.rows name ≡ Some (named name) → ReadsFile name (texts (take place words)) file → NamesFile (codes "listen" ∷ texts words) gs name file
  file_named name file is_row read = record {
    value = sym (after_options listen_form words place r name (named name) refl is_row refl) ∙ read.value;
    before = read.before + 1;
    place = omega (arith, read.place);
    option_at = after_command read.before name read.option_at;
    name_at = ap (slice_get (codes "listen" ∷ texts words)) {x = file.place} {y = read.before + 1 + 1} (omega (arith, read.place)) ∙ after_command (read.before + 1) file.name read.name_at;
  }

  file_says : (name : List ℕ) → row_named listen_form.rows name ≡ Some (named name) → (file : Option NamedFile) → IsReadFile name (texts (take place words)) file → IsGivenFile (codes "listen" ∷ texts words) gs name file
  file_says name is_row None read = sym (after_options listen_form words place r name (named name) refl is_row refl) ∙ read
  file_says name is_row (Some file) read = file_named name file is_row read

  silence : Row
  silence = record { name = codes "--silence"; takes = takes.Silence }

  silence_word : value_after silence.name (texts (take place words)) ≡ value_in silence.name gs
  silence_word = after_options listen_form words place r silence.name silence refl refl refl

  zero_of : (v : Option (List ℕ)) → IfSome v (IsValue takes.Silence) → IfSome v (λ word. word ≢ codes "am824") → IfSome v (λ word. word ≡ codes "zero")
  zero_of None is other = tt
  zero_of (Some word) (inl zeros) other = zeros
  zero_of (Some word) (inr am824) other = absurd (other am824)

  silence_says : (made : Silence) → IsReadSilence (value_after silence.name (texts (take place words))) made → IsGivenSilence gs made
  silence_says Zero read = zero_of (value_in silence.name gs) (value_is listen_form.rows silence.name silence gs refl r.rest.options.each) (subst (λ v. IfSome v (λ word. word ≢ codes "am824")) silence_word read)
  silence_says Blocks read = sym silence_word ∙ read

  raw_says : (raw : Option NamedRaw) → IsReadRaw (texts (take place words)) raw → IsGivenRaw (codes "listen" ∷ texts words) gs raw
  raw_says None read = sym (after_options listen_form words place r (codes "--raw") (named (codes "--raw")) refl refl refl) ∙ read
  raw_says (Some raw) read = record { file = file_named (codes "--raw") raw.file refl read.file; silence = silence_says raw.silence read.silence }

-- ---- talk

-- The words after `talk` are options, then two names. The first name is at index `place`.
pub record TwoNames (words : List (List ℕ)) (place : ℕ) (settings : List Setting) : Type 0 where
  pub first : List ℕ
  pub second : List ℕ
  pub line : IsOf talk_form (codes "talk" ∷ words) settings (first ∷ second ∷ [])
  pub at_first : slice_get words place ≡ Some first
  pub at_second : slice_get words (place + 1) ≡ Some second

two_names : (words : List (List ℕ)) (place : ℕ) (r : IsRestTo talk_form.rows talk_form.operands words place) → TwoNames words place r.rest.settings
two_names words place r = go r.rest.names r.rest.spelled r.rest.named (first_operand talk_form words place r) (operand_at talk_form words place 1 r) where
  go : (ns : List (List ℕ)) → words ≡ flat_map words_of r.rest.settings ++ ns → AreOperands talk_form.operands ns → slice_get words place ≡ slice_get ns 0 → slice_get words (place + 1) ≡ slice_get ns 1 → TwoNames words place r.rest.settings
  go [] spelled named at_first at_second = absurd named
  go (first ∷ []) spelled named at_first at_second = absurd named.1
  go (first ∷ second ∷ []) spelled named at_first at_second = record {
    first = first;
    second = second;
    line = record { spelled = ap (λ ws. codes "talk" ∷ ws) spelled; options = r.rest.options; operands = named };
    at_first = at_first;
    at_second = at_second;
  }
  go (first ∷ second ∷ more ∷ ns) spelled named at_first at_second = absurd named.1.1

line_at : (words : List (List ℕ)) (place : ℕ) (settings : List Setting) (t : TwoNames words place settings) (first second : List ℕ) → slice_get words place ≡ Some first → slice_get words (place + 1) ≡ Some second → IsOf talk_form (codes "talk" ∷ words) settings (first ∷ second ∷ [])
line_at words place settings t first second at_first at_second =
    let firsts : t.first ≡ first = (let e = sym t.at_first ∙ at_first in cc) in
    let seconds : t.second ≡ second = (let e = sym t.at_second ∙ at_second in cc) in
    subst (λ (n : List ℕ). IsOf talk_form (codes "talk" ∷ words) settings (first ∷ n ∷ [])) seconds (subst (λ (n : List ℕ). IsOf talk_form (codes "talk" ∷ words) settings (n ∷ t.second ∷ [])) firsts t.line)

pub first_stands : (words : List (List ℕ)) (place : ℕ) → IsRestTo talk_form.rows talk_form.operands words place → slice_get words place ≡ None → ⊥
first_stands words place r none = let t = two_names words place r in let both = sym t.at_first ∙ none in cc

pub second_stands : (words : List (List ℕ)) (place : ℕ) → IsRestTo talk_form.rows talk_form.operands words place → slice_get words (place + 1) ≡ None → ⊥
second_stands words place r none = let t = two_names words place r in let both = sym t.at_second ∙ none in cc

-- an option's name is among all words if and only if it is among the words after `talk`
after_talk : (name : List ℕ) (tells : Bool) (words : List (List ℕ)) → BeginsWithDash name → IsTrue tells ↔ Contains words name → IsTrue tells ↔ Contains (codes "talk" ∷ words) name
after_talk name tells words dash told =
    let all = after_first (codes "talk") name words other in
    ((λ yes. all.0 (told.0 yes)), λ within. told.1 (all.1 within)) where
      no_dash : BeginsWithDash (codes "talk") → ⊥
      no_dash dash = absurd (omega (arith, dash))

      other : codes "talk" ≡ name → ⊥
      other e = no_dash (subst BeginsWithDash (sym e) dash)

pub talk_says : (words : List (String Global)) (place : ℕ) (tells_sparse tells_last : Bool) (asked : Talking) → IsRestTo talk_form.rows talk_form.operands (texts words) place
    → slice_get (texts words) place ≡ Some asked.input → slice_get (texts words) (place + 1) ≡ Some asked.output
    → IsTrue tells_sparse ↔ Contains (texts words) (codes "--sparse") → IsTrue tells_last ↔ Contains (texts words) (codes "--last-stamp")
    → IsReadKind (texts (take place words)) tells_sparse tells_last asked.kind → AreRead (texts (take place words)) asked → SaysTalk (codes "talk" ∷ texts words) asked
talk_says words place tells_sparse tells_last asked r here next sparse last read_kind read = record {
  settings = gs;
  line = line_at (texts words) place gs (two_names (texts words) place r) asked.input asked.output here next;
  kind = kind_says asked.kind read_kind;
  rate = number_of (with_default limits.rate (default_rate asked.kind)) (default_rate asked.kind) (2 ^ 32) asked.rate refl refl (omega arith) read.rate;
  channels = number_of limits.channels 2 (2 ^ 16) asked.channels refl refl (omega arith) read.channels;
  count = number_of limits.count 6 (2 ^ 32) asked.count refl refl (omega arith) read.count;
  id = id_given limits.talk_id asked.id (value_in (codes "--id") gs) (given (row (codes "--id") takes.Id) refl)
      (subst (λ v. IsReadId limits.talk_id v asked.id) (after (row (codes "--id") takes.Id) refl refl) read.id);
  start_at = read.start.0;
  start = number_of limits.start (10 ^ 9) (2 ^ 63) read.start.0 refl refl (omega arith) read.start.2;
  start_is = read.start.1;
  lead = number_of limits.talk_lead 2000000 (2 ^ 32) asked.lead refl refl (omega arith) read.lead;
  restart = number_given_if limits.restart.low limits.restart.high (2 ^ 32) asked.restart (value_in limits.restart.name gs) (omega arith) (given (number limits.restart) refl)
      (subst (λ v. IsReadIf (2 ^ 32) v asked.restart) (after (number limits.restart) refl refl) read.restart);
  jump = number_of limits.jump 1000000 (2 ^ 32) asked.jump refl refl (omega arith) read.jump;
  crf = clock_says asked.rate asked.crf read.crf;
} where
  gs : List Setting
  gs = r.rest.settings

  row : List ℕ → Takes → Row
  row name takes = record { name = name; takes = takes }

  given : (taken : Row) → row_named talk_form.rows taken.name ≡ Some taken → IfSome (value_in taken.name gs) (IsValue taken.takes)
  given taken is_row = value_is talk_form.rows taken.name taken gs is_row r.rest.options.each

  after : (taken : Row) → row_named talk_form.rows taken.name ≡ Some taken → stands_alone taken.takes ≡ false → value_after taken.name (texts (take place words)) ≡ value_in taken.name gs
  after taken is_row wanted = after_options talk_form words place r taken.name taken refl is_row wanted

  number_of : (option : NumberOption) (default bound n : ℕ) → row_named talk_form.rows option.name ≡ Some (number option) → option.default ≡ Some default → option.high < bound → IsRead bound default (value_after option.name (texts (take place words))) n → IsGiven option gs n
  number_of option default bound n is_row has small reads = number_is talk_form words place r option default bound n refl is_row has small reads

  aaf_of : (v : Option (List ℕ)) → IfSome v (IsValue takes.Kind) → IfSome v (λ word. word ≢ codes "am824") → IfSome v (λ word. word ≢ codes "h264") → IfSome v (λ word. word ≡ codes "aaf")
  aaf_of None is no_blocks no_video = tt
  aaf_of (Some word) (inl aaf) no_blocks no_video = aaf
  aaf_of (Some word) (inr (inl am824)) no_blocks no_video = absurd (no_blocks am824)
  aaf_of (Some word) (inr (inr h264)) no_blocks no_video = absurd (no_video h264)

  kind_word : value_after (codes "--kind") (texts (take place words)) ≡ value_in (codes "--kind") gs
  kind_word = after (row (codes "--kind") takes.Kind) refl refl

  kind_says : (kind : Kind) → IsReadKind (texts (take place words)) tells_sparse tells_last kind → SaysKind (codes "talk" ∷ texts words) gs kind
  kind_says (Aaf format is_sparse) read = record {
    kind = aaf_of (value_in (codes "--kind") gs) (given (row (codes "--kind") takes.Kind) refl) (subst (λ v. IfSome v (λ word. word ≢ codes "am824")) kind_word read.no_blocks)
        (subst (λ v. IfSome v (λ word. word ≢ codes "h264")) kind_word read.no_video);
    format_given = format_given Int16 format (value_in (codes "--format") gs) (given (row (codes "--format") takes.Format) refl)
        (subst (λ v. IsReadFormat Int16 v format) (after (row (codes "--format") takes.Format) refl refl) read.format_read);
    sparse_given = after_talk (codes "--sparse") is_sparse (texts words) refl (subst (λ is. IsTrue is ↔ Contains (texts words) (codes "--sparse")) (sym read.sparse_read) sparse);
  }
  kind_says Am824 read = sym kind_word ∙ read
  kind_says (H264 last_stamp) read = record {
    kind = sym kind_word ∙ read.kind;
    last_stamp_given = after_talk (codes "--last-stamp") last_stamp (texts words) refl (subst (λ is. IsTrue is ↔ Contains (texts words) (codes "--last-stamp")) (sym read.last_stamp_read) last);
  }

  clock : Row
  clock = record { name = codes "--crf"; takes = takes.Id }

  clock_id : (id : Option ℕ) → IsReadIdIf (value_after clock.name (texts (take place words))) id → IsGivenIdIf clock.name gs id
  clock_id id read = id_given_if id (value_in clock.name gs) (given clock refl) (subst (λ v. IsReadIdIf v id) (after clock refl refl) read)

  clock_says : (rate : ℕ) (crf : Option Crf) → IsReadClock (texts (take place words)) rate crf → SaysClock gs rate crf
  clock_says rate None read = clock_id None read
  clock_says rate (Some crf) read = record {
    id = clock_id (Some crf.id) read.id;
    base = number_of (with_default limits.crf_rate rate) rate (2 ^ 32) crf.rate refl refl (omega arith) read.base;
    pull = number_of limits.crf_pull 0 (2 ^ 8) crf.pull refl refl (omega arith) read.pull;
    interval = number_of limits.crf_interval 96 (2 ^ 16) crf.interval refl refl (omega arith) read.interval;
    points = number_of limits.crf_points 1 (2 ^ 8) crf.points refl refl (omega arith) read.points;
  }

some_rate : (kind : Kind) → 1 ≤ default_rate kind
some_rate (Aaf format sparse) = omega arith
some_rate Am824 = omega arith
some_rate (H264 last_stamp) = omega arith

few_rate : (kind : Kind) → default_rate kind ≤ 192000
few_rate (Aaf format sparse) = omega arith
few_rate Am824 = omega arith
few_rate (H264 last_stamp) = omega arith

pub talk_clock : (words : List (List ℕ)) (asked : Talking) → SaysTalk words asked → ClockIsWithin asked.crf asked.rate
talk_clock words asked says =
    let rate = within (with_default limits.rate (default_rate asked.kind)) (default_rate asked.kind) asked.rate says.settings refl (some_rate asked.kind) (few_rate asked.kind) says.rate in
    clock_within says.settings asked.rate asked.crf rate.0 rate.1 says.crf

-- ---- soak

-- The number of packets is the word at index `place` of the words after `soak`.
pub record OneNumber (words : List (List ℕ)) (place : ℕ) (settings : List Setting) : Type 0 where
  pub number : List ℕ
  pub line : IsOf soak_form (codes "soak" ∷ words) settings (number ∷ [])
  pub at_number : slice_get words place ≡ Some number

one_number : (words : List (List ℕ)) (place : ℕ) (r : IsRestTo soak_form.rows soak_form.operands words place) → OneNumber words place r.rest.settings
one_number words place r = go r.rest.names r.rest.spelled r.rest.named (first_operand soak_form words place r) where
  go : (ns : List (List ℕ)) → words ≡ flat_map words_of r.rest.settings ++ ns → AreOperands soak_form.operands ns → slice_get words place ≡ slice_get ns 0 → OneNumber words place r.rest.settings
  go [] spelled named at_first = absurd named
  go (number ∷ []) spelled named at_first = record {
    number = number;
    line = record { spelled = ap (λ ws. codes "soak" ∷ ws) spelled; options = r.rest.options; operands = named };
    at_number = at_first;
  }
  go (number ∷ more ∷ ns) spelled named at_first = absurd named.1

pub soak_stands : (words : List (List ℕ)) (place : ℕ) → IsRestTo soak_form.rows soak_form.operands words place → slice_get words place ≡ None → ⊥
soak_stands words place r none = let t = one_number words place r in let both = sym t.at_number ∙ none in cc

pub soak_number : (words : List (List ℕ)) (place : ℕ) (word : List ℕ) → IsRestTo soak_form.rows soak_form.operands words place → slice_get words place ≡ Some word → ((n : ℕ) → IsNumber 0 most_packets word n → ⊥) → ⊥
soak_number words place word r here none =
    let t = one_number words place r in
    let both = sym t.at_number ∙ here in
    let same : t.number ≡ word = cc in
    let n = t.line.operands.0 in
    none n.0 (subst (λ w. IsNumber 0 most_packets w n.0) same n.1)

pub soak_is : (words : List (List ℕ)) (place : ℕ) (word : List ℕ) (packets : ℕ) → IsRestTo soak_form.rows soak_form.operands words place → slice_get words place ≡ Some word → IsNumber 0 most_packets word packets → IsSoak (codes "soak" ∷ words) packets
soak_is words place word packets r here is =
    let t = one_number words place r in
    let both = sym t.at_number ∙ here in
    let same : t.number ≡ word = cc in
    record { settings = r.rest.settings; number = word; line = subst (λ (n : List ℕ). IsOf soak_form (codes "soak" ∷ words) r.rest.settings (n ∷ [])) same t.line; packets_given = is }

-- ---- a stream and two captures

operands_here : (form : Form) (words : List (String Global)) (place : ℕ) (r : IsRestTo form.rows form.operands (texts words) place) → texts (take (length words - place) (drop place words)) ≡ r.rest.names
operands_here form words place r = words_after words place ∙ left_is form.rows (texts words) place (options_to form.rows form.operands (texts words) place r)

pub are_operands : (form : Form) (words : List (String Global)) (place : ℕ) → IsRestTo form.rows form.operands (texts words) place → AreOperands form.operands (texts (take (length words - place) (drop place words)))
are_operands form words place r = subst (AreOperands form.operands) (sym (operands_here form words place r)) r.rest.named

line_named : (form : Form) (words : List (String Global)) (place stream : ℕ) (first second : List ℕ) (r : IsRestTo form.rows form.operands (texts words) place)
    → (n : NameStreamAndTwo (texts (take (length words - place) (drop place words))) stream first second) → IsOf form (form.command ∷ texts words) r.rest.settings (n.id ∷ first ∷ second ∷ [])
line_named form words place stream first second r n =
    subst (IsOf form (form.command ∷ texts words) r.rest.settings) (sym (operands_here form words place r) ∙ n.spelled) (of_rest form (texts words) r.rest)

-- ---- agree

pub agree_says : (words : List (String Global)) (place stream : ℕ) (asked : Agreeing) → IsRestTo agree_form.rows agree_form.operands (texts words) place
    → NameStreamAndTwo (texts (take (length words - place) (drop place words))) stream asked.a asked.b → asked.listener.stream ≡ stream
    → IsReadListener (texts (take place words)) asked.listener → SaysAgree (codes "agree" ∷ texts words) asked
agree_says words place stream asked r n is read = record {
  settings = r.rest.settings;
  id = n.id;
  line = line_named agree_form words place stream asked.a asked.b r n;
  listener = listener_says agree_form words place r n.id asked.listener (record { sound = refl; limit = refl; buffer = refl; room = refl; look = refl; lead = refl; clock = refl; shift = refl }) (subst (IsId n.id) (sym is) n.is) read;
}

-- ---- gateway

-- the word that the code reads after `--to` is the value of `--to`
to_word : (words : List (String Global)) (place : ℕ) (r : IsRestTo gateway_form.rows gateway_form.operands (texts words) place) → value_after (codes "--to") (texts (take place words)) ≡ value_in (codes "--to") r.rest.settings
to_word words place r = after_options gateway_form words place r (codes "--to") (record { name = codes "--to"; takes = takes.OutFormat }) refl refl refl

pub gateway_says : (words : List (String Global)) (place stream : ℕ) (asked : Turning) → IsRestTo gateway_form.rows gateway_form.operands (texts words) place
    → NameStreamAndTwo (texts (take (length words - place) (drop place words))) stream asked.input asked.output → asked.listener.stream ≡ stream
    → IsReadListener (texts (take place words)) asked.listener → value_after (codes "--to") (texts (take place words)) ≡ Some (gateway_format_name asked.to)
    → IsReadId stream (value_after (codes "--id") (texts (take place words))) asked.id → SaysGateway (codes "gateway" ∷ texts words) asked
gateway_says words place stream asked r n is read to read_id = record {
  settings = r.rest.settings;
  id = n.id;
  line = line_named gateway_form words place stream asked.input asked.output r n;
  listener = listener_says gateway_form words place r n.id asked.listener (record { sound = refl; limit = refl; buffer = refl; room = refl; look = refl; lead = refl; clock = refl; shift = refl }) (subst (IsId n.id) (sym is) n.is) read;
  to_given = sym (to_word words place r) ∙ to;
  id_given = subst (λ default. IsGivenId own.name default r.rest.settings asked.id) (sym is)
      (id_given stream asked.id (value_in own.name r.rest.settings) (value_is gateway_form.rows own.name own r.rest.settings refl r.rest.options.each)
      (subst (λ v. IsReadId stream v asked.id) (after_options gateway_form words place r own.name own refl refl refl) read_id));
} where
  own : Row
  own = record { name = codes "--id"; takes = takes.Id }

-- ---- one request

-- words cannot be lines of two different commands
same_command : (form other : Form) (words : List (List ℕ)) (gs hs : List Setting) (ns ms : List (List ℕ)) → IsOf form words gs ns → IsOf other words hs ms → form.command ≡ other.command
same_command form other words gs hs ns ms p q = cc (p.spelled, q.spelled)

one_command : (words : List (List ℕ)) (r s : Request) (p : IsCommandLine words r) (q : IsCommandLine words s) → (line_of words r p).form.command ≡ (line_of words s q).form.command
one_command words r s p q =
    let l = line_of words r p in
    let m = line_of words s q in
    same_command l.form m.form words l.settings m.settings l.names m.names l.line m.line

-- a number made of the first two letters of a command's name; no two commands have the same number
abbrev mark : List ℕ → ℕ
mark word = get_or word 0 0 * 256 + get_or word 1 0

one_mark : (words : List (List ℕ)) (r s : Request) (p : IsCommandLine words r) (q : IsCommandLine words s) → mark (line_of words r p).form.command ≡ mark (line_of words s q).form.command
one_mark words r s p q = ap mark (one_command words r s p q)

-- If words fit a form but are not a command line, their offence is at the command.
offence_of_form : (form : Form) (words : List (List ℕ)) (settings : List Setting) (names : List (List ℕ)) → form_named form.command ≡ Some form → IsOf form words settings names
    → ((request : Request) (p : IsCommandLine words request) → mark (line_of words request p).form.command ≡ mark form.command → ⊥) → IsOffence words 1
offence_of_form form words settings names known line none = of_a_rule refl (record { form = form; known = known; settings = settings; names = names; line = line })
    (λ request p. let l = line_of words request p in none request p (ap mark (same_command l.form form words l.settings settings l.names names l.line line)))

aaf_am824 : codes "am824" ≡ codes "aaf" → ⊥
aaf_am824 e = let second = ap (λ (word : List ℕ). get_or word 1 0) e in absurd (omega (arith, second))

same_flag : (a b : Bool) (P : Type 0) → IsTrue a ↔ P → IsTrue b ↔ P → a ≡ b
same_flag true true P p q = refl
same_flag true false P p q = sym (q.1 (p.0 refl))
same_flag false true P p q = p.1 (q.0 refl)
same_flag false false P p q = refl

aaf_h264 : codes "h264" ≡ codes "aaf" → ⊥
aaf_h264 e = let first = ap (λ (word : List ℕ). get_or word 0 0) e in absurd (omega (arith, first))

am824_h264 : codes "h264" ≡ codes "am824" → ⊥
am824_h264 e = let first = ap (λ (word : List ℕ). get_or word 0 0) e in absurd (omega (arith, first))

same_kind : (words : List (List ℕ)) (gs : List Setting) (a b : Kind) → SaysKind words gs a → SaysKind words gs b → a ≡ b
same_kind words gs (Aaf format sparse) (Aaf other another) p q =
    let formats : format ≡ other = same_format_given (codes "--format") Int16 format other gs p.format_given q.format_given in
    let flags : sparse ≡ another = same_flag sparse another (Contains words (codes "--sparse")) p.sparse_given q.sparse_given in
    ap (λ f. Aaf f sparse) formats ∙ ap (Aaf other) flags
same_kind words gs (Aaf format sparse) Am824 p q = absurd (aaf_am824 (subst (λ v. IfSome v (λ word. word ≡ codes "aaf")) q p.kind))
same_kind words gs Am824 (Aaf format sparse) p q = absurd (aaf_am824 (subst (λ v. IfSome v (λ word. word ≡ codes "aaf")) p q.kind))
same_kind words gs Am824 Am824 p q = refl
same_kind words gs (Aaf format sparse) (H264 last_stamp) p q = absurd (aaf_h264 (subst (λ v. IfSome v (λ word. word ≡ codes "aaf")) q.kind p.kind))
same_kind words gs (H264 last_stamp) (Aaf format sparse) p q = absurd (aaf_h264 (subst (λ v. IfSome v (λ word. word ≡ codes "aaf")) p.kind q.kind))
same_kind words gs Am824 (H264 last_stamp) p q = absurd (am824_h264 (let both : Some (codes "h264") ≡ Some (codes "am824") = sym q.kind ∙ p in cc))
same_kind words gs (H264 last_stamp) Am824 p q = absurd (am824_h264 (let both : Some (codes "h264") ≡ Some (codes "am824") = sym p.kind ∙ q in cc))
same_kind words gs (H264 last_stamp) (H264 other) p q = ap H264 (same_flag last_stamp other (Contains words (codes "--last-stamp")) p.last_stamp_given q.last_stamp_given)

same_talk : (words : List (List ℕ)) (a b : Talking) → SaysTalk words a → SaysTalk words b → a ≡ b
same_talk words a b p q = same inputs outputs
    kinds
    rates
    (number limits.channels a.channels b.channels (omega arith) p.channels q.channels)
    (number limits.count a.count b.count (omega arith) p.count q.count)
    (same_id_given (codes "--id") limits.talk_id a.id b.id q.settings (subst (λ gs. IsGivenId (codes "--id") limits.talk_id gs a.id) both.0 p.id) q.id)
    (p.start_is ∙ ap pos (number limits.start p.start_at q.start_at (omega arith) p.start q.start) ∙ sym q.start_is)
    (number limits.talk_lead a.lead b.lead (omega arith) p.lead q.lead)
    (same_number_if limits.restart a.restart b.restart q.settings (omega arith) (subst (λ gs. IsGivenIf limits.restart gs a.restart) both.0 p.restart) q.restart)
    (number limits.jump a.jump b.jump (omega arith) p.jump q.jump)
    (same_clock q.settings b.rate a.crf b.crf (subst (λ rate. SaysClock q.settings rate a.crf) rates (subst (λ gs. SaysClock gs a.rate a.crf) both.0 p.crf)) q.crf) where
      both : (p.settings ≡ q.settings) × ((a.input ∷ a.output ∷ []) ≡ (b.input ∷ b.output ∷ []))
      both = same_line talk_form words p.settings q.settings (a.input ∷ a.output ∷ []) (b.input ∷ b.output ∷ []) p.line q.line

      inputs : a.input ≡ b.input
      inputs = cc (both.1)

      outputs : a.output ≡ b.output
      outputs = cc (both.1)

      number : (option : NumberOption) (m n : ℕ) → option.high < 2 ^ 64 → IsGiven option p.settings m → IsGiven option q.settings n → m ≡ n
      number option m n small first second = same_number option m n q.settings small (subst (λ gs. IsGiven option gs m) both.0 first) second

      kinds : a.kind ≡ b.kind
      kinds = same_kind words q.settings a.kind b.kind (subst (λ gs. SaysKind words gs a.kind) both.0 p.kind) q.kind

      rates : a.rate ≡ b.rate
      rates = number (with_default limits.rate (default_rate b.kind)) a.rate b.rate (omega arith) (subst (λ kind. IsGiven (with_default limits.rate (default_rate kind)) p.settings a.rate) kinds p.rate) q.rate

      same : a.input ≡ b.input → a.output ≡ b.output → a.kind ≡ b.kind → a.rate ≡ b.rate → a.channels ≡ b.channels → a.count ≡ b.count → a.id ≡ b.id → a.start ≡ b.start → a.lead ≡ b.lead → a.restart ≡ b.restart → a.jump ≡ b.jump → a.crf ≡ b.crf → a ≡ b
      same inputs outputs kinds rates channels counts ids starts leads restarts jumps clocks = rw (inputs, outputs, kinds, rates, channels, counts, ids, starts, leads, restarts, jumps, clocks) refl

-- if words fit the form of `talk` but break a rule over several words, the offence is at the command
pub offence_of_rule : (words : List (List ℕ)) (asked : Talking) → SaysTalk words asked → (KeepsRules (drop 1 words) asked → ⊥) → IsOffence words 1
offence_of_rule words asked says breaks = offence_of_form talk_form words says.settings (asked.input ∷ asked.output ∷ []) refl says.line none where
  none : (request : Request) (p : IsCommandLine words request) → mark (line_of words request p).form.command ≡ mark (codes "talk") → ⊥
  none (show limit file) p same = absurd (omega (arith, same))
  none (check limit files) p same = absurd (omega (arith, same))
  none (listen other) (s, rules) same = absurd (omega (arith, same))
  none (talk other) (s, rules) same = breaks (subst (KeepsRules (drop 1 words)) (same_talk words other asked s says) rules)
  none (soak packets) p same = absurd (omega (arith, same))
  none (agree other) p same = absurd (omega (arith, same))
  none (gateway other) (s, rules) same = absurd (omega (arith, same))

-- ---- a command line asks for only one request, and words have only one offence

same_listener : (settings : List Setting) (id : List ℕ) (a b : ListenerOptions) → SaysListener settings id a → SaysListener settings id b → a ≡ b
same_listener settings id a b p q = same
    (same_id id a.stream b.stream p.stream q.stream)
    (same_number limits.limit a.limit b.limit settings (omega arith) p.limit q.limit)
    (same_number limits.buffer a.buffer b.buffer settings (omega arith) p.buffer q.buffer)
    (same_number limits.room a.room b.room settings (omega arith) p.room q.room)
    (same_number limits.look a.look b.look settings (omega arith) p.look q.look)
    (same_number limits.listen_lead a.lead b.lead settings (omega arith) p.lead q.lead)
    (same_id_given_if (codes "--clock") a.clock b.clock settings p.clock q.clock)
    (same_signed limits.crf_shift a.shift b.shift settings (omega arith) p.shift q.shift) where
      same : a.stream ≡ b.stream → a.limit ≡ b.limit → a.buffer ≡ b.buffer → a.room ≡ b.room → a.look ≡ b.look → a.lead ≡ b.lead → a.clock ≡ b.clock → a.shift ≡ b.shift → a ≡ b
      same streams limits buffers rooms looks leads clocks shifts = rw (streams, limits, buffers, rooms, looks, leads, clocks, shifts) refl

same_listen : (words : List (List ℕ)) (a b : Listening) → SaysListen words a → SaysListen words b → a ≡ b
same_listen words a b p q = same
    (same_listener q.settings q.id a.listener b.listener (subst (λ word. SaysListener q.settings word a.listener) ids (subst (λ gs. SaysListener gs p.id a.listener) both.0 p.listener)) q.listener)
    (same_number limits.ring a.ring b.ring q.settings (omega arith) (subst (λ gs. IsGiven limits.ring gs a.ring) both.0 p.ring) q.ring)
    (same_raw words q.settings (q.id ∷ b.files) a.raw b.raw q.line (subst (λ gs. IsGivenRaw words gs a.raw) both.0 p.raw) q.raw)
    (same_file words q.settings (q.id ∷ b.files) (codes "--annexb") a.annexb b.annexb q.line refl (subst (λ gs. IsGivenFile words gs (codes "--annexb") a.annexb) both.0 p.annexb) q.annexb)
    files where
      both : (p.settings ≡ q.settings) × ((p.id ∷ a.files) ≡ (q.id ∷ b.files))
      both = same_line listen_form words p.settings q.settings (p.id ∷ a.files) (q.id ∷ b.files) p.line q.line

      files : a.files ≡ b.files
      files = cc (both.1)

      ids : p.id ≡ q.id
      ids = cc (both.1)

      same : a.listener ≡ b.listener → a.ring ≡ b.ring → a.raw ≡ b.raw → a.annexb ≡ b.annexb → a.files ≡ b.files → a ≡ b
      same listeners rings raws annexbs files = rw (listeners, rings, raws, annexbs, files) refl

-- if words fit the form of `listen` but break a rule over several words, the offence is at the command
pub offence_of_names : (words : List (List ℕ)) (asked : Listening) → SaysListen words asked → (KeepsNames (drop 1 words) asked → ⊥) → IsOffence words 1
offence_of_names words asked says breaks = offence_of_form listen_form words says.settings (says.id ∷ asked.files) refl says.line none where
  none : (request : Request) (p : IsCommandLine words request) → mark (line_of words request p).form.command ≡ mark (codes "listen") → ⊥
  none (show limit file) p same = absurd (omega (arith, same))
  none (check limit files) p same = absurd (omega (arith, same))
  none (listen other) (s, rules) same = breaks (subst (KeepsNames (drop 1 words)) (same_listen words other asked s says) rules)
  none (talk other) (s, rules) same = absurd (omega (arith, same))
  none (soak packets) p same = absurd (omega (arith, same))
  none (agree other) p same = absurd (omega (arith, same))
  none (gateway other) (s, rules) same = absurd (omega (arith, same))

same_agree : (words : List (List ℕ)) (a b : Agreeing) → SaysAgree words a → SaysAgree words b → a ≡ b
same_agree words a b p q = same
    (same_listener q.settings q.id a.listener b.listener (subst (λ word. SaysListener q.settings word a.listener) ids (subst (λ gs. SaysListener gs p.id a.listener) both.0 p.listener)) q.listener)
    firsts seconds where
      both : (p.settings ≡ q.settings) × ((p.id ∷ a.a ∷ a.b ∷ []) ≡ (q.id ∷ b.a ∷ b.b ∷ []))
      both = same_line agree_form words p.settings q.settings (p.id ∷ a.a ∷ a.b ∷ []) (q.id ∷ b.a ∷ b.b ∷ []) p.line q.line

      ids : p.id ≡ q.id
      ids = cc (both.1)

      firsts : a.a ≡ b.a
      firsts = cc (both.1)

      seconds : a.b ≡ b.b
      seconds = cc (both.1)

      same : a.listener ≡ b.listener → a.a ≡ b.a → a.b ≡ b.b → a ≡ b
      same listeners firsts seconds = rw (listeners, firsts, seconds) refl

same_gateway_format : (a b : GatewayFormat) → gateway_format_name a ≡ gateway_format_name b → a ≡ b
same_gateway_format format.Am824 format.Am824 e = refl
same_gateway_format format.Am824 format.Aaf e = absurd (aaf_am824 e)
same_gateway_format format.Aaf format.Am824 e = absurd (aaf_am824 (sym e))
same_gateway_format format.Aaf format.Aaf e = refl

same_gateway : (words : List (List ℕ)) (a b : Turning) → SaysGateway words a → SaysGateway words b → a ≡ b
same_gateway words a b p q = same listeners
    (same_gateway_format a.to b.to (let both : Some (gateway_format_name a.to) ≡ Some (gateway_format_name b.to) = sym p.to_given ∙ ap (value_in (codes "--to")) both.0 ∙ q.to_given in cc))
    (same_id_given (codes "--id") b.listener.stream a.id b.id q.settings (subst (λ stream. IsGivenId (codes "--id") stream q.settings a.id) (ap (λ (l : ListenerOptions). l.stream) listeners)
    (subst (λ gs. IsGivenId (codes "--id") a.listener.stream gs a.id) both.0 p.id_given)) q.id_given)
    inputs outputs where
      both : (p.settings ≡ q.settings) × ((p.id ∷ a.input ∷ a.output ∷ []) ≡ (q.id ∷ b.input ∷ b.output ∷ []))
      both = same_line gateway_form words p.settings q.settings (p.id ∷ a.input ∷ a.output ∷ []) (q.id ∷ b.input ∷ b.output ∷ []) p.line q.line

      ids : p.id ≡ q.id
      ids = cc (both.1)

      inputs : a.input ≡ b.input
      inputs = cc (both.1)

      outputs : a.output ≡ b.output
      outputs = cc (both.1)

      listeners : a.listener ≡ b.listener
      listeners = same_listener q.settings q.id a.listener b.listener (subst (λ word. SaysListener q.settings word a.listener) ids (subst (λ gs. SaysListener gs p.id a.listener) both.0 p.listener)) q.listener

      same : a.listener ≡ b.listener → a.to ≡ b.to → a.id ≡ b.id → a.input ≡ b.input → a.output ≡ b.output → a ≡ b
      same listeners formats ids inputs outputs = rw (listeners, formats, ids, inputs, outputs) refl

-- if words fit the form of `gateway` but are not a command line, their offence is at the command
offence_of_gateway : (words : List (List ℕ)) (settings : List Setting) (names : List (List ℕ)) → IsOf gateway_form words settings names → ((other : Turning) → SaysGateway words other → KeepsOutput other → ⊥) → IsOffence words 1
offence_of_gateway words settings names line breaks = offence_of_form gateway_form words settings names refl line none where
  none : (request : Request) (p : IsCommandLine words request) → mark (line_of words request p).form.command ≡ mark (codes "gateway") → ⊥
  none (show limit file) p same = absurd (omega (arith, same))
  none (check limit files) p same = absurd (omega (arith, same))
  none (listen other) (s, rules) same = absurd (omega (arith, same))
  none (talk other) (s, rules) same = absurd (omega (arith, same))
  none (soak packets) p same = absurd (omega (arith, same))
  none (agree other) p same = absurd (omega (arith, same))
  none (gateway other) (s, rules) same = breaks other s rules

-- if `--to` is not given, the offence is at the command
pub offence_without_to : (words : List (String Global)) (place : ℕ) → IsRestTo gateway_form.rows gateway_form.operands (texts words) place
    → ((to : GatewayFormat) → value_after (codes "--to") (texts (take place words)) ≡ Some (gateway_format_name to) → ⊥) → IsOffence (codes "gateway" ∷ texts words) 1
offence_without_to words place r none = offence_of_gateway (codes "gateway" ∷ texts words) r.rest.settings r.rest.names line breaks where
  line : IsOf gateway_form (codes "gateway" ∷ texts words) r.rest.settings r.rest.names
  line = of_rest gateway_form (texts words) r.rest

  breaks : (other : Turning) → SaysGateway (codes "gateway" ∷ texts words) other → KeepsOutput other → ⊥
  breaks other s rules =
      let both = same_line gateway_form (codes "gateway" ∷ texts words) r.rest.settings s.settings r.rest.names (s.id ∷ other.input ∷ other.output ∷ []) line s.line in
      none other.to (to_word words place r ∙ ap (value_in (codes "--to")) both.0 ∙ s.to_given)

-- if the output of `gateway` has the input's name, the offence is at the command
pub offence_of_output : (words : List (List ℕ)) (asked : Turning) → SaysGateway words asked → (KeepsOutput asked → ⊥) → IsOffence words 1
offence_of_output words asked says breaks = offence_of_gateway words says.settings (says.id ∷ asked.input ∷ asked.output ∷ []) says.line
    (λ other s rules. breaks (subst KeepsOutput (same_gateway words other asked s says) rules))

pub gateway_id : (words : List (List ℕ)) (asked : Turning) → SaysGateway words asked → asked.id < 2 ^ 64
gateway_id words asked says = go (value_in (codes "--id") says.settings) says.id_given where
  go : (v : Option (List ℕ)) → MatchOption v (asked.id ≡ asked.listener.stream) (λ word. IsId word asked.id) → asked.id < 2 ^ 64
  go None given = subst (λ (n : ℕ). n < 2 ^ 64) (sym given) says.listener.stream.fits
  go (Some word) given = given.fits

-- a command line asks for only one request
pub same_request : (words : List (List ℕ)) (r s : Request) → IsCommandLine words r → IsCommandLine words s → r ≡ s
same_request words (show limit file) (show other name) p q =
    let both = same_line show_form words p.settings q.settings (file ∷ []) (name ∷ []) p.line q.line in
    let files : file ≡ name = cc (both.1) in
    let limits : limit ≡ other = same_number limits.limit limit other q.settings (omega arith) (subst (λ gs. IsGiven limits.limit gs limit) both.0 p.limit_given) q.limit_given in
    ap (λ n. show n file) limits ∙ ap (show other) files
same_request words (check limit files) (check other names) p q =
    let both = same_line check_form words p.settings q.settings files names p.line q.line in
    let limits : limit ≡ other = same_number limits.limit limit other q.settings (omega arith) (subst (λ gs. IsGiven limits.limit gs limit) both.0 p.limit_given) q.limit_given in
    ap (λ n. check n files) limits ∙ ap (check other) both.1
same_request words (soak packets) (soak other) p q =
    let both = same_line soak_form words p.settings q.settings (p.number ∷ []) (q.number ∷ []) p.line q.line in
    let numbers : p.number ≡ q.number = cc (both.1) in
    ap soak (spells_one p.number packets other (omega (arith, p.packets_given.most)) (omega (arith, q.packets_given.most)) (numbers ∙ q.packets_given.spelled) p.packets_given.spelled)
same_request words (show limit file) (soak other) p q = absurd (omega (arith, one_mark words (show limit file) (soak other) p q))
same_request words (check limit files) (soak other) p q = absurd (omega (arith, one_mark words (check limit files) (soak other) p q))
same_request words (listen asked) (soak other) p q = absurd (omega (arith, one_mark words (listen asked) (soak other) p q))
same_request words (talk asked) (soak other) p q = absurd (omega (arith, one_mark words (talk asked) (soak other) p q))
same_request words (soak packets) (show other name) p q = absurd (omega (arith, one_mark words (show other name) (soak packets) q p))
same_request words (soak packets) (check other names) p q = absurd (omega (arith, one_mark words (check other names) (soak packets) q p))
same_request words (soak packets) (listen other) p q = absurd (omega (arith, one_mark words (listen other) (soak packets) q p))
same_request words (soak packets) (talk other) p q = absurd (omega (arith, one_mark words (talk other) (soak packets) q p))
same_request words (show limit file) (agree other) p q = absurd (omega (arith, one_mark words (show limit file) (agree other) p q))
same_request words (check limit files) (agree other) p q = absurd (omega (arith, one_mark words (check limit files) (agree other) p q))
same_request words (listen asked) (agree other) p q = absurd (omega (arith, one_mark words (listen asked) (agree other) p q))
same_request words (talk asked) (agree other) p q = absurd (omega (arith, one_mark words (talk asked) (agree other) p q))
same_request words (soak packets) (agree other) p q = absurd (omega (arith, one_mark words (soak packets) (agree other) p q))
same_request words (agree asked) (show other name) p q = absurd (omega (arith, one_mark words (show other name) (agree asked) q p))
same_request words (agree asked) (check other names) p q = absurd (omega (arith, one_mark words (check other names) (agree asked) q p))
same_request words (agree asked) (listen other) p q = absurd (omega (arith, one_mark words (listen other) (agree asked) q p))
same_request words (agree asked) (talk other) p q = absurd (omega (arith, one_mark words (talk other) (agree asked) q p))
same_request words (agree asked) (soak other) p q = absurd (omega (arith, one_mark words (soak other) (agree asked) q p))
same_request words (agree asked) (agree other) p q = ap agree (same_agree words asked other p q)
same_request words (show limit file) (gateway other) p q = absurd (omega (arith, one_mark words (show limit file) (gateway other) p q))
same_request words (check limit files) (gateway other) p q = absurd (omega (arith, one_mark words (check limit files) (gateway other) p q))
same_request words (listen asked) (gateway other) p q = absurd (omega (arith, one_mark words (listen asked) (gateway other) p q))
same_request words (talk asked) (gateway other) p q = absurd (omega (arith, one_mark words (talk asked) (gateway other) p q))
same_request words (soak packets) (gateway other) p q = absurd (omega (arith, one_mark words (soak packets) (gateway other) p q))
same_request words (agree asked) (gateway other) p q = absurd (omega (arith, one_mark words (agree asked) (gateway other) p q))
same_request words (gateway asked) (show other name) p q = absurd (omega (arith, one_mark words (gateway asked) (show other name) p q))
same_request words (gateway asked) (check other names) p q = absurd (omega (arith, one_mark words (gateway asked) (check other names) p q))
same_request words (gateway asked) (listen other) p q = absurd (omega (arith, one_mark words (gateway asked) (listen other) p q))
same_request words (gateway asked) (talk other) p q = absurd (omega (arith, one_mark words (gateway asked) (talk other) p q))
same_request words (gateway asked) (soak other) p q = absurd (omega (arith, one_mark words (gateway asked) (soak other) p q))
same_request words (gateway asked) (agree other) p q = absurd (omega (arith, one_mark words (gateway asked) (agree other) p q))
same_request words (gateway asked) (gateway other) (p, rules) (q, others) = ap gateway (same_gateway words asked other p q)
same_request words (show limit file) (check other names) p q = absurd (omega (arith, one_mark words (show limit file) (check other names) p q))
same_request words (show limit file) (listen other) p q = absurd (omega (arith, one_mark words (show limit file) (listen other) p q))
same_request words (show limit file) (talk other) p q = absurd (omega (arith, one_mark words (show limit file) (talk other) p q))
same_request words (check limit files) (show other name) p q = absurd (omega (arith, one_mark words (show other name) (check limit files) q p))
same_request words (check limit files) (listen other) p q = absurd (omega (arith, one_mark words (check limit files) (listen other) p q))
same_request words (check limit files) (talk other) p q = absurd (omega (arith, one_mark words (check limit files) (talk other) p q))
same_request words (listen asked) (show other name) p q = absurd (omega (arith, one_mark words (show other name) (listen asked) q p))
same_request words (listen asked) (check other names) p q = absurd (omega (arith, one_mark words (check other names) (listen asked) q p))
same_request words (listen asked) (talk other) p q = absurd (omega (arith, one_mark words (listen asked) (talk other) p q))
same_request words (talk asked) (show other name) p q = absurd (omega (arith, one_mark words (show other name) (talk asked) q p))
same_request words (talk asked) (check other names) p q = absurd (omega (arith, one_mark words (check other names) (talk asked) q p))
same_request words (talk asked) (listen other) p q = absurd (omega (arith, one_mark words (listen other) (talk asked) q p))
same_request words (talk asked) (talk other) (p, rules) (q, others) = ap talk (same_talk words asked other p q)
same_request words (listen asked) (listen other) (p, rules) (q, others) = ap listen (same_listen words asked other p q)

-- if words have a first wrong word, the words do not fit the form of their command
stopped : (words : List (List ℕ)) (place : ℕ) → StopsAt IsLine words place → IsLine words → ⊥
stopped words place o line = go o.rest o.split o.stops where
  go : (rest : List (List ℕ)) → words ≡ o.before ++ rest → Stops IsLine o.before rest → ⊥
  go [] split never = never (subst IsLine (split ∙ append-nil o.before) line)
  go (word ∷ rest) split never = never (record { more = rest; whole = subst IsLine (split ∙ sym (append_assoc o.before (word ∷ []) rest)) line })

-- a command line has no offence
no_offence : (words : List (List ℕ)) (position : ℕ) (request : Request) → IsOffence words position → IsCommandLine words request → ⊥
no_offence words position request (of_a_word place here stops) line = stopped words place stops (line_of words request line)
no_offence words position request (of_a_rule here fits none) line = none request line

-- If two lists are prefixes of the same list, the shorter is a prefix of the longer.
one_begins : (xs ys rest more : List (List ℕ)) → xs ++ rest ≡ ys ++ more → ((m : List (List ℕ)) × (ys ≡ xs ++ m) × (rest ≡ m ++ more)) ⊎ ((m : List (List ℕ)) × (xs ≡ ys ++ m) × (more ≡ m ++ rest))
one_begins [] ys rest more e = inl (ys, refl, e)
one_begins (x ∷ xs) [] rest more e = inr (x ∷ xs, refl, sym e)
one_begins (x ∷ xs) (y ∷ ys) rest more e =
    let heads : x ≡ y = cc in
    let tails : xs ++ rest ≡ ys ++ more = cc in
    elim (one_begins xs ys rest more tails) [
      | inl (m, whole, left) ↦ inl (m, ap (λ (first : List ℕ). first ∷ ys) (sym heads) ∙ ap (λ (ws : List (List ℕ)). x ∷ ws) whole, left)
      | inr (m, whole, left) ↦ inr (m, ap (λ (first : List ℕ). first ∷ xs) heads ∙ ap (λ (ws : List (List ℕ)). y ∷ ws) whole, left)
    ]

past : (before rest m : List (List ℕ)) (more : List (List ℕ)) → Stops IsLine before rest → rest ≡ m ++ more → Begins IsLine (before ++ m) → m ≡ []
past before rest [] more stops split begins = refl
past before [] (word ∷ m) more stops split begins = absurd (cc)
past before (first ∷ rest) (word ∷ m) more stops split begins =
    let same : first ≡ word = cc in
    absurd (stops (record { more = m ++ begins.more; whole = subst (λ w. IsLine ((before ++ w ∷ []) ++ (m ++ begins.more))) (sym same) (subst IsLine (append_assoc before (word ∷ m) begins.more ∙ sym (append_assoc before (word ∷ []) (m ++ begins.more))) begins.whole) }))

same_stop : (words : List (List ℕ)) (p q : ℕ) → StopsAt IsLine words p → StopsAt IsLine words q → p ≡ q
same_stop words p q o r =
    elim (one_begins o.before r.before o.rest r.rest (sym o.split ∙ r.split)) [
      | inl (m, whole, left) ↦ (
          let none : m ≡ [] = past o.before o.rest m r.rest o.stops left (subst (Begins IsLine) whole r.begins) in
          omega (arith, o.here, r.here, ap length whole, length-append o.before m, ap length none))
      | inr (m, whole, left) ↦ (
          let none : m ≡ [] = past r.before r.rest m o.rest r.stops left (subst (Begins IsLine) whole o.begins) in
          omega (arith, o.here, r.here, ap length whole, length-append r.before m, ap length none))
    ]

pub same_offence : (words : List (List ℕ)) (p q : ℕ) → IsOffence words p → IsOffence words q → p ≡ q
same_offence words p q (of_a_word place here stops) (of_a_word other there others) = omega (arith, here, there, same_stop words place other stops others)
same_offence words p q (of_a_word place here stops) (of_a_rule there fits none) = absurd (stopped words place stops fits)
same_offence words p q (of_a_rule here fits none) (of_a_word place there stops) = absurd (stopped words place stops fits)
same_offence words p q (of_a_rule here fits none) (of_a_rule there others nothing) = here ∙ sym there

-- the words ask only for the command that was read from them
answered_only : (words : List (List ℕ)) (result : Result Command Offence) → Reads Asks words result
    → (request : Request) → IsCommandLine words request → IsOkAnd result (λ command. request_of command ≡ request)
answered_only words (Ok command) read request line = same_request words (request_of command) request read.ok line
answered_only words (Err offence) read request line = absurd (no_offence words offence.position request read.err line)

answered_offence : (words : List (List ℕ)) (result : Result Command Offence) → Reads Asks words result
    → (position : ℕ) → IsOffence words position → IsErrAnd result (λ offence. offence.position ≡ position)
answered_offence words (Ok command) read position offence = absurd (no_offence words position (request_of command) offence read.ok)
answered_offence words (Err o) read position offence = same_offence words o.position position read.err offence

pub only_after : (words rest : List (String Global)) (command : String Global) (name : List ℕ) (result : Result Command Offence) → words ≡ command ∷ rest → string_bytes command ≡ name → Reads Asks (name ∷ texts rest) result
    → (request : Request) → IsCommandLine (texts words) request → IsOkAnd result (λ command. request_of command ≡ request)
only_after words rest command name result e same read = rw (words_are words rest command name e same) (answered_only (name ∷ texts rest) result read)

pub offence_alone : (words rest : List (String Global)) (command : String Global) (name : List ℕ) (result : Result Command Offence) → words ≡ command ∷ rest → string_bytes command ≡ name → Reads Asks (name ∷ texts rest) result
    → (position : ℕ) → IsOffence (texts words) position → IsErrAnd result (λ offence. offence.position ≡ position)
offence_alone words rest command name result e same read = rw (words_are words rest command name e same) (answered_offence (name ∷ texts rest) result read)

-- What words ask for.
use Rattle.std.proofs.Common.{◌≡◌, ℕ, List, ◌≤◌, Option, Some, None, arith, refl, sym, subst, ◌*◌, ◌<◌, ℤ, pos, ◌≤ℤ◌, drop, Bool, negsuc, Result, Ok, Err}
use Rattle.std.specs.Prelude.{MatchOption, IsSome, ◌^◌, IsSomeAnd, codes, option_map, neg_ℤ, unsigned_abs, IsErrAnd}
use Rattle.std.proofs.lemmas.Int.{ints}
use Rattle.option_words.specs.Number.{IsNumber, IsSigned}
use Rattle.talk_plan.specs.Plan.{Restarts, HasRate, IsAudioKind, fdf_of, rate_code, FitsBlocks, FitsPacket, HasWholeRuns, spacing_of, HasClock, IsAudioPlan, IsVideoPlan, IsPlanOf}
use Rattle.talk_plan.proofs.RateLemmas.{named_fdf, named_rate}
use Rattle.avtp_words.specs.declared.talk.Kind.{Kind}
use Rattle.avtp_words.specs.Grammar.{FitsKind, Talking, HasWholeRuns as KeepsWholeRuns, FitsClock, SaysClock, SaysTalk, KeepsRules, FitsOptions, SaysListener, IsCommandLine, Request, show, check, gateway, listen, soak, talk, agree}
use Rattle.avtp_words.specs.Limits.{default_rate}
use Rattle.iec61883_format.specs.Iec.{block_size, rate_of_fdf, syt_interval}
use Rattle.talk_plan.specs.declared.plan.TalkPlan.{TalkPlan}
use Rattle.talker.proofs.LawLemmas.{named_blocks}
use Rattle.option_words.specs.Word.{IsId}
use Rattle.avtp_words.specs.declared.crf.Crf.{Crf}
use Rattle.option_words.specs.Options.{Setting, value_in}
use Rattle.avtp_words.proofs.Lacking.{video_clock, video_restart}
use Rattle.avtp_words.specs.declared.listener.ListenerOptions.{ListenerOptions}
use Rattle.sample_schedule.specs.Limits.{IsPlan as IsSchedulePlan}
use Rattle.listener.specs.Heard.{schedule_plan}
use Rattle.avtp_words.specs.declared.command.Command.{Command}
use Rattle.avtp_words.specs.declared.command.Offence.{Offence}
use Rattle.avtp_words.specs.declared.talk.Kind.TheVariants as words
use Rattle.run_report.specs.Listener.{plan_of}
use Rattle.talk_command.specs.Talk.{talk_kind, talk_plan, talk_clock}
use Rattle.avtp_tool.specs.state.Run.{IsRequest}

given_within : (v : Option (List ℕ)) (low high default n : ℕ) → low ≤ default → default ≤ high → MatchOption v (n ≡ default) (λ word. IsNumber low high word n) → (low ≤ n) × (n ≤ high)
given_within None low high default n least most given = (omega (arith, given, least), omega (arith, given, most))
given_within (Some word) low high default n least most given = (given.least, given.most)

some_is : {A : Type 0} (x : Option A) (y : A) → x ≡ Some y → IsSome x
some_is None y is = absurd cc
some_is (Some x) y is = refl

restarts : (v : Option (List ℕ)) (given : Option ℕ) (jump : ℕ) → MatchOption v (given ≡ None) (λ word. (n : ℕ) × (given ≡ Some n) × IsNumber 8 (10 ^ 9) word n)
    → (4 ≤ jump) × (jump ≤ 10 ^ 9) → Restarts given jump
restarts None given jump none within = subst (λ g. Restarts g jump) (sym none) tt
restarts (Some word) given jump some within = subst (λ g. Restarts g jump) (sym some.1) (record { some = some.2.least; most = some.2.most; least_jump = within.0; most_jump = within.1 })

-- ---- what is sent

rate_of_kind : (kind : Kind) (asked : Talking) → IsAudioKind (talk_kind kind) → FitsKind kind asked → HasRate (talk_kind kind) asked.rate
rate_of_kind (words.Aaf format sparse) asked audio fits = some_is (rate_code asked.rate) fits.rate.0 (named_rate asked.rate fits.rate.0 fits.rate.1)
rate_of_kind words.Am824 asked audio fits = some_is (fdf_of asked.rate) fits.rate.0 (named_fdf asked.rate fits.rate.0 fits.rate.1)
rate_of_kind (words.H264 last_stamp) asked audio fits = absurd audio

default_within : (kind : Kind) → (1 ≤ default_rate kind) × (default_rate kind ≤ 192000)
default_within (words.Aaf format sparse) = (omega arith, omega arith)
default_within words.Am824 = (omega arith, omega arith)
default_within (words.H264 last_stamp) = (omega arith, omega arith)

stated_blocks : (plan : TalkPlan) (fdf : ℕ) (stated : Option ℕ) → syt_interval fdf ≡ stated → rate_of_fdf fdf ≡ Some plan.rate → IsSomeAnd stated (λ interval. interval ≤ 8 * plan.count) → plan.channels ≤ 256 → plan.count * block_size plan.channels ≤ 1468 → FitsBlocks plan
stated_blocks plan fdf None is named some quadlets size = absurd some
stated_blocks plan fdf (Some interval) is named some quadlets size = named_blocks plan fdf interval named is quadlets some size

fits_kind : (kind : Kind) (asked : Talking) → IsAudioKind (talk_kind kind) → FitsKind kind asked → FitsPacket (talk_kind kind) (talk_plan asked)
fits_kind (words.Aaf format sparse) asked audio fits = fits.size
fits_kind words.Am824 asked audio fits = stated_blocks (talk_plan asked) fits.rate.0 (syt_interval fits.rate.0) refl fits.rate.1 fits.rate.2 fits.quadlets fits.size
fits_kind (words.H264 last_stamp) asked audio fits = absurd audio

-- ---- the media clock

id_within : (v : Option (List ℕ)) (id : ℕ) → MatchOption v (Some id ≡ None) (λ word. (n : ℕ) × (Some id ≡ Some n) × IsId word n) → id < 2 ^ 64
id_within None id given = absurd cc
id_within (Some word) id given = let is : id ≡ given.0 = cc in subst (λ (n : ℕ). n < 2 ^ 64) (sym is) given.2.fits

whole_runs : (crf : Crf) (rate count : ℕ) (restart : Option ℕ) → KeepsWholeRuns crf rate count restart → HasWholeRuns (talk_clock crf) rate count restart
unfolding spacing_of
whole_runs crf rate count None keeps = tt
whole_runs crf rate count (Some packets) keeps = keeps

has_clock : (settings : List Setting) (crf : Option Crf) (rate count : ℕ) (restart : Option ℕ) → SaysClock settings rate crf → FitsClock crf rate count restart → (1 ≤ rate) × (rate ≤ 192000) → HasClock (option_map talk_clock crf) rate count restart
has_clock settings None rate count restart says fits within = tt
has_clock settings (Some crf) rate count restart says fits within =
    let base = given_within (value_in (codes "--crf-rate") settings) 1 200000000 rate crf.rate within.0 (omega (arith, within.1)) says.base in
    let pull = given_within (value_in (codes "--crf-pull") settings) 0 5 0 crf.pull (omega arith) (omega arith) says.pull in
    let interval = given_within (value_in (codes "--crf-interval") settings) 1 65535 96 crf.interval (omega arith) (omega arith) says.interval in
    let points = given_within (value_in (codes "--crf-points") settings) 1 180 1 crf.points (omega arith) (omega arith) says.points in
    record {
      id = id_within (value_in (codes "--crf") settings) crf.id says.id;
      some_rate = base.0;
      most_rate = base.1;
      pull = pull.1;
      some_interval = interval.0;
      most_interval = interval.1;
      some_points = points.0;
      most_points = points.1;
      whole = fits.whole;
      runs = whole_runs crf rate count restart fits.runs;
    }

-- ---- the plan

begins : (words : List (List ℕ)) (asked : Talking) → SaysTalk words asked → (pos 0 ≤ℤ asked.start) × (asked.start ≤ℤ pos (4 * 10 ^ 18))
begins words asked says =
    let start = given_within (value_in (codes "--start") says.settings) 0 (4 * 10 ^ 18) (10 ^ 9) says.start_at (omega arith) (omega arith) says.start in
    (subst (λ (z : ℤ). pos 0 ≤ℤ z) (sym says.start_is) (omega (arith, ints)), subst (λ (z : ℤ). z ≤ℤ pos (4 * 10 ^ 18)) (sym says.start_is) (omega (arith, ints, start.1)))

rate_within : (words : List (List ℕ)) (asked : Talking) → SaysTalk words asked → (1 ≤ asked.rate) × (asked.rate ≤ 192000)
rate_within words asked says =
    let default = default_within asked.kind in
    given_within (value_in (codes "--rate") says.settings) 1 192000 (default_rate asked.kind) asked.rate default.0 default.1 says.rate

lead_within : (words : List (List ℕ)) (asked : Talking) → SaysTalk words asked → (1 ≤ asked.lead) × (asked.lead ≤ 10 ^ 9)
lead_within words asked says = given_within (value_in (codes "--lead") says.settings) 1 (10 ^ 9) 2000000 asked.lead (omega arith) (omega arith) says.lead

audio_asked : (words : List (List ℕ)) (asked : Talking) → IsAudioKind (talk_kind asked.kind) → SaysTalk words asked → KeepsRules (drop 1 words) asked → IsAudioPlan (talk_plan asked)
audio_asked words asked audio says rules =
    let channels = given_within (value_in (codes "--channels") says.settings) 1 1023 2 asked.channels (omega arith) (omega arith) says.channels in
    let count = given_within (value_in (codes "--count") says.settings) 1 1476 6 asked.count (omega arith) (omega arith) says.count in
    let jump = given_within (value_in (codes "--jump") says.settings) 4 (10 ^ 9) 1000000 asked.jump (omega arith) (omega arith) says.jump in
    let start = begins words asked says in
    let lead = lead_within words asked says in
    record {
      kind = audio;
      rate = rate_of_kind asked.kind asked audio rules.fits;
      some_channels = channels.0;
      channels = channels.1;
      some_count = count.0;
      count = count.1;
      fits = fits_kind asked.kind asked audio rules.fits;
      started = start.0;
      start = start.1;
      some_lead = lead.0;
      lead = lead.1;
      restart = restarts (value_in (codes "--restart") says.settings) asked.restart asked.jump says.restart jump;
      crf = has_clock says.settings asked.crf asked.rate asked.count asked.restart says.crf rules.clock (rate_within words asked says);
    }

no_plan : (crf : Option Crf) → crf ≡ None → option_map talk_clock crf ≡ None
no_plan None none = refl
no_plan (Some crf) none = absurd cc

video_asked : (line : List (List ℕ)) (asked : Talking) (last_stamp : Bool) → FitsKind (words.H264 last_stamp) asked → FitsOptions (words.H264 last_stamp) (drop 1 line) → SaysTalk line asked → IsVideoPlan (talk_plan asked)
video_asked line asked last_stamp fits options says =
    let start = begins line asked says in
    let lead = lead_within line asked says in
    record {
      some_rate = (rate_within line asked says).0;
      rate = fits;
      started = start.0;
      start = start.1;
      some_lead = lead.0;
      lead = lead.1;
      restart = video_restart line asked last_stamp says options;
      crf = no_plan asked.crf (video_clock line asked last_stamp says options);
    }

talk_asked : (kind : Kind) (line : List (List ℕ)) (asked : Talking) → asked.kind ≡ kind → SaysTalk line asked → KeepsRules (drop 1 line) asked → IsPlanOf (talk_kind kind) (talk_plan asked)
talk_asked (words.Aaf format sparse) line asked is says rules = audio_asked line asked (subst (λ (k : Kind). IsAudioKind (talk_kind k)) (sym is) tt) says rules
talk_asked words.Am824 line asked is says rules = audio_asked line asked (subst (λ (k : Kind). IsAudioKind (talk_kind k)) (sym is) tt) says rules
talk_asked (words.H264 last_stamp) line asked is says rules =
    video_asked line asked last_stamp (subst (λ (k : Kind). FitsKind k asked) is rules.fits) (subst (λ (k : Kind). FitsOptions k (drop 1 line)) is rules.options) says

-- ---- what is heard

small_shift : (z : ℤ) → unsigned_abs z ≤ 10 ^ 9 → (neg_ℤ (pos 1000000000) ≤ℤ z) × (z ≤ℤ pos 1000000000)
small_shift (pos n) small = (omega (arith, ints), omega (arith, ints, small))
small_shift (negsuc n) small = (omega (arith, ints, small), omega (arith, ints))

shift_within : (o : Option (List ℕ)) (z : ℤ) → MatchOption o (z ≡ pos 0) (λ word. IsSigned (10 ^ 9) word z) → (neg_ℤ (pos 1000000000) ≤ℤ z) × (z ≤ℤ pos 1000000000)
shift_within None z given = rw given (omega (arith, ints), omega (arith, ints))
shift_within (Some word) z given = small_shift z given.size

listener_within : (settings : List Setting) (id : List ℕ) (asked : ListenerOptions) → SaysListener settings id asked → (asked.limit ≤ 2 ^ 40) × IsSchedulePlan (schedule_plan (plan_of asked))
listener_within settings id asked says =
    let limit = given_within (value_in (codes "--limit") settings) 1 (2 ^ 40) (2 ^ 40) asked.limit (omega arith) (omega arith) says.limit in
    let buffer = given_within (value_in (codes "--buffer") settings) 1 65536 4096 asked.buffer (omega arith) (omega arith) says.buffer in
    let room = given_within (value_in (codes "--room") settings) 1 (2 ^ 30) (2 ^ 26) asked.room (omega arith) (omega arith) says.room in
    let look = given_within (value_in (codes "--look") settings) 0 64 0 asked.look (omega arith) (omega arith) says.look in
    let lead = given_within (value_in (codes "--lead") settings) 0 (10 ^ 9) 2000000 asked.lead (omega arith) (omega arith) says.lead in
    let shift = shift_within (value_in (codes "--crf-shift") settings) asked.shift says.shift in
    (limit.1, record { some_buffer = buffer.0; buffer = buffer.1; some_room = room.0; room = omega (arith, room.1); look = look.1; lead = lead.1; shift_from = shift.0; shift_to = shift.1 })

-- if the words ask for `request`, all values in `request` are within their bounds
pub requested : (words : List (List ℕ)) (request : Request) → IsCommandLine words request → IsRequest request
requested words (show limit file) line = (given_within (value_in (codes "--limit") line.settings) 1 (2 ^ 40) (2 ^ 40) limit (omega arith) (omega arith) line.limit_given).1
requested words (check limit names) line = (given_within (value_in (codes "--limit") line.settings) 1 (2 ^ 40) (2 ^ 40) limit (omega arith) (omega arith) line.limit_given).1
requested words (listen asked) (line, rules) =
    let within = listener_within line.settings line.id asked.listener line.listener in
    record { limit = within.0; plan = within.1; ring = given_within (value_in (codes "--ring") line.settings) 1 256 64 asked.ring (omega arith) (omega arith) line.ring }
requested words (soak packets) line = line.packets_given.most
requested words (talk asked) (line, rules) = talk_asked asked.kind words asked refl line rules
requested words (gateway asked) (line, rules) =
    let within = listener_within line.settings line.id asked.listener line.listener in
    record { limit = within.0; plan = within.1; apart = rules.apart }
requested words (agree asked) line = let within = listener_within line.settings line.id asked.listener line.listener in record { limit = within.0; plan = within.1 }

-- if the words were parsed as a command, no word is wrong
pub not_offence : (r : Result Command Offence) (command : Command) (position : ℕ) → IsErrAnd r (λ offence. offence.position ≡ position) → r ≡ Ok command → ⊥
not_offence (Ok c) command position h e = h
not_offence (Err o) command position h e = absurd cc

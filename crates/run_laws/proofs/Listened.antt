-- What a run of `listen` with the words `listen_words` gives to devices.
use Rattle.std.proofs.Common.{◌≡◌, ◌≢◌, ℕ, ◌^◌, ◌≤◌, [], ◌∷◌, pos, Bool, true, false, List, length, take, Option, None, Some, IsSome, inl, inr, refl, sym, ap, subst, ◌∙◌, append-nil, nat_le}
use Rattle.std.specs.Prelude.{◌⊎◌}
use Rattle.std.proofs.lemmas.Bool.{cases_Bool, le-leb, leb-true}
use Rattle.std.proofs.lemmas.List.{take_all}
use Rattle.avtp_base.specs.declared.failed.FaultPlace.TheVariants as fault_place
use Rattle.avtp_base.specs.declared.failed.FaultPlace.{FaultPlace}
use Rattle.avtp_base.specs.Faults.{FailsAt}
use Rattle.avtp_base.specs.Files.{Files}
use Rattle.avtp_base.specs.declared.refusal.Refusal.{Refusal}
use Rattle.pcap_frames.specs.Capture.{Record, first_refusal, whole_records}
use Rattle.capture_io.specs.declared.capture_reader.Format.TheVariants.{Classic}
use Rattle.capture_io.specs.declared.end.End.{End}
use Rattle.capture_io.specs.declared.end.End.TheVariants as end
use Rattle.capture_io.specs.Ends.{at_limit, end_of}
use Rattle.capture_io.specs.Formats.{certain_in, records_in, refusal_in}
use Rattle.capture_io.proofs.Formats.{accepted_classic, is_classic, records_by, refusal_by}
use Rattle.packet_journal.specs.Packets.{PacketJournal}
use Rattle.sample_schedule.specs.declared.shown.Shown.{Shown}
use Rattle.listener.specs.Headline.{KeepsHeadline}
use Rattle.listener.specs.Heard.{shown_of}
use Rattle.listener.specs.Laws.{HearsTalker}
use Rattle.talk_plan.specs.declared.plan.TalkPlan.{TalkPlan}
use Rattle.talker.specs.Frames.{capture}
use Rattle.talker.specs.Journal.{journal}
use Rattle.talked_presented.specs.Whole.{ArePresented, default_listener}
use Rattle.avtp_words.specs.Grammar.{listen, Listening}
use Rattle.option_words.specs.Word.{IsId, IsName}
use Rattle.avtp_text.specs.Notices.{read_fault_line}
use Rattle.run_report.specs.declared.status.Status.{Status}
use Rattle.run_report.specs.declared.status.Status.TheVariants as status
use Rattle.run_report.specs.Listener.{plan_of}
use Rattle.capture_hearing.specs.Shown.{shown_by}
use Rattle.listen_command.specs.Listen.{YieldsHeadline, is_cut_short, listen_plan, listen_report}
use Rattle.run_report.specs.Outcome.{is_done}
use Rattle.run_report.specs.Reading.{file_status, file_yield, in_order_read, in_order_status, in_order_yield, one_status, one_yield}
use Rattle.listen_command.specs.Listen.{device_status}
use Rattle.run_report.specs.Status.{status_of}
use Rattle.run_report.specs.Yield.{Yield, says}
use Rattle.run_report.specs.Halt.{Halt, no_halt}
use Rattle.avtp_tool.specs.Run.{report_for}
use Rattle.avtp_tool.proofs.Ended.{quiet_not}
use Rattle.run_report.proofs.OneFile.{by_end}
use Rattle.run_laws.specs.Defaults.{listen_default, listen_words}
use Rattle.run_laws.specs.Runs.{GaveAll, Ran}
use Rattle.run_laws.proofs.Words.{listens}

-- ---- a run over one file

one_came : (ends : Halt → List ℕ → Status) (name : List ℕ) → in_order_read ends no_halt (name ∷ []) ≡ name ∷ []
unfolding in_order_read
one_came ends name = elim (cases_Bool (is_done (ends no_halt name))) [ inl is ↦ rw is refl | inr is ↦ rw is refl ]

one_ended : (ends : Halt → List ℕ → Status) (name : List ℕ) → in_order_status ends no_halt (name ∷ []) ≡ ends no_halt name
unfolding in_order_status
one_ended ends name = elim (cases_Bool (is_done (ends no_halt name))) [ inl is ↦ rw is refl | inr is ↦ rw is refl ]

one_given : (ends : Halt → List ℕ → Status) (yields : Halt → List ℕ → Yield) (name : List ℕ) → (in_order_yield ends yields no_halt (name ∷ [])).items ≡ (yields no_halt name).items
unfolding in_order_yield
one_given ends yields name = elim (cases_Bool (is_done (ends no_halt name))) [
  | inl is ↦ rw is (append-nil (yields no_halt name).items)
  | inr is ↦ rw is (append-nil (yields no_halt name).items)
]

-- ---- a capture that was read to its end

done_whole : (failed : Bool) (how : End) → status.Done ≡ device_status failed (status_of how) → how ≡ end.Whole
done_whole true end.Whole e = absurd cc
done_whole false end.Whole e = refl
done_whole true (end.Refused refusal) e = absurd cc
done_whole false (end.Refused refusal) e = absurd cc
done_whole true end.ReadFault e = absurd cc
done_whole false end.ReadFault e = absurd cc
done_whole true end.Limit e = absurd cc
done_whole false end.Limit e = absurd cc

end_whole : (limit : ℕ) (bytes : List ℕ) → length bytes ≤ limit → refusal_in bytes ≡ None → end_of limit bytes ≡ end.Whole
unfolding end_of
end_whole limit bytes short none = rw (le-leb (length bytes) limit short, none) refl

within : (limit : ℕ) (bytes : List ℕ) → end_of limit bytes ≡ end.Whole → length bytes ≤ limit
unfolding end_of
within limit bytes is = elim (cases_Bool (nat_le (length bytes) limit)) [
  | inl le ↦ leb-true (length bytes) limit le
  | inr more ↦ absurd (none (certain_in (take limit bytes)) (rw more at is))
] where
  none : (certain : Option Refusal) → at_limit certain ≡ end.Whole → ⊥
  none None e = cc
  none (Some refusal) e = cc

-- what is shown of a capture that was read to its end
shown_whole : (asked : Listening) (bytes read : List ℕ) (how : End) → how ≡ end.Whole → read ≡ bytes
    → shown_by (plan_of asked.listener) (records_in read) how ≡ shown_of (plan_of asked.listener) (records_in bytes)
shown_whole asked bytes read how is same = rw (is, same) refl

kept : (asked : Listening) (name bytes : List ℕ) (fault : FaultPlace → Type 0) (here : Yield) (p : PacketJournal) → ((place : FaultPlace) → fault place → ⊥) → end_of asked.listener.limit bytes ≡ end.Whole → take asked.listener.limit bytes ≡ bytes
    → HearsTalker (pos 0) p (plan_of asked.listener) (records_in bytes) → (fault fault_place.Opening × (here ≡ says read_fault_line)) ⊎ YieldsHeadline asked name bytes fault here
    → KeepsHeadline (pos 0) p (plan_of asked.listener) (records_in bytes) (shown_of (plan_of asked.listener) (records_in bytes))
kept asked name bytes fault here p none ends taken hears (inl came) = absurd (none _ came.0)
kept asked name bytes fault here p none ends taken hears (inr yields) =
    let at = by_end asked.listener.limit bytes yields.read fault yields.how none yields.ends in
    let how : yields.how ≡ end.Whole = at.0 ∙ ends in
    let read : yields.read ≡ bytes = at.1 ∙ taken in
    let items : here.items ≡ shown_of (plan_of asked.listener) (records_in bytes) = ap (λ (y : Yield). y.items) yields.same ∙ shown_whole asked bytes yields.read yields.how how read in
    let keeps = yields.whole (pos 0) p (ap is_cut_short how) (subst (λ b. HearsTalker (pos 0) p (plan_of asked.listener) (records_in b)) (sym read) hears) in
    subst (KeepsHeadline (pos 0) p (plan_of asked.listener) (records_in bytes)) items
    (subst (λ b. KeepsHeadline (pos 0) p (plan_of asked.listener) (records_in b) here.items) read keeps)

-- ---- the run

-- unless memory ran out or a write failed, the status depends only on how the reading ended and on whether a device
-- failed
ended_by : (id : ℕ) (word name bytes : List ℕ) (files after : Files) (handed : List Shown → Type 0) (still : Type 0) (failed : Bool) (ended : Status) → IsId word id → IsName name → files name ≡ Some bytes
    → Ran (listen_words word name) handed still failed files after ended → ended ≢ status.Memory → ended ≢ status.WriteFault → ended ≡ device_status failed (status_of (end_of (2 ^ 40) bytes))
ended_by id word name bytes files after handed still failed ended is named holds ran memory written =
    let asked = listen_default id name in
    let report = (ran.promised (listen asked) (listens word name id is named)).reports files ran.told (subst IsSome (sym ran.told_after) refl) in
    (report.did.whole memory written).0 ∙ ap (λ (halt : Halt). (report_for (listen asked) files failed halt).ended) (report.complete ran.read)
    ∙ ap (device_status failed) (one_ended (one_status (listen_plan asked) files) name ∙ ap (λ told. file_status (listen_report asked name) (2 ^ 40) told no_halt) holds)

pub ends : (plan : TalkPlan) (input word name : List ℕ) (files after : Files) (handed : List Shown → Type 0) (still : Type 0) (ended : Status) → IsId word plan.id → IsName name
    → first_refusal (capture plan input) ≡ None → length (capture plan input) ≤ 2 ^ 40 → files name ≡ Some (capture plan input)
    → Ran (listen_words word name) handed still false files after ended → ended ≢ status.Memory → ended ≢ status.WriteFault → ended ≡ status.Done
ends plan input word name files after handed still ended id named sound short holds ran memory written =
    let bytes = capture plan input in
    ended_by plan.id word name bytes files after handed still false ended id named holds ran memory written
    ∙ ap (λ (how : End). device_status false (status_of how)) (end_whole (2 ^ 40) bytes short (refusal_by Classic bytes (is_classic bytes (accepted_classic bytes sound)) ∙ sound))

-- ---- the devices

pub gives_all : (plan : TalkPlan) (input packets word name : List ℕ) (files after : Files) (handed : List Shown → Type 0) (still : Type 0) (failed : Bool) → IsId word plan.id → IsName name
    → HearsTalker (pos 0) (journal plan input) (default_listener plan.id) (records_in (capture plan input)) → first_refusal (capture plan input) ≡ None
    → ArePresented false (journal plan input) packets (shown_of (default_listener plan.id) (whole_records (capture plan input)))
    → files name ≡ Some (capture plan input) → Ran (listen_words word name) handed still failed files after status.Done → GaveAll plan input packets handed
gives_all plan input packets word name files after handed still failed id named hears sound presented holds ran =
    let asked = listen_default plan.id name in
    let bytes = capture plan input in
    let report = (ran.promised (listen asked) (listens word name plan.id id named)).reports files ran.told (subst IsSome (sym ran.told_after) refl) in
    let complete = report.complete ran.read in
    let whole = report.did.whole (λ e. cc) (λ e. cc) in
    let ends = one_status (listen_plan asked) files in
    let none = quiet_not ran.shelf.reading_faults ran.shelf'.reading_faults ran.read in
    let how = done_whole failed (end_of (2 ^ 40) bytes) (ended_by plan.id word name bytes files after handed still failed status.Done id named holds ran (λ e. cc) (λ e. cc)) in
    let taken : take (2 ^ 40) bytes ≡ bytes = take_all (2 ^ 40) bytes (within (2 ^ 40) bytes how) in
    let items : (report_for (listen asked) files failed report.halt).yields.items ≡ shown_of (default_listener plan.id) (records_in bytes) =
    ap (λ (halt : Halt). (report_for (listen asked) files failed halt).yields.items) complete ∙ append-nil _ ∙ one_given ends (one_yield (listen_plan asked) files) name
    ∙ ap (λ told. (file_yield (listen_report asked name) (2 ^ 40) told no_halt).items) holds ∙ shown_whole asked bytes (take (2 ^ 40) bytes) (end_of (2 ^ 40) bytes) how taken in
    let headline = report.headline asked [] [] name bytes refl (ap (λ (halt : Halt). (report_for (listen asked) files failed halt).came) complete ∙ one_came ends name) holds in
    record {
      items = shown_of (default_listener plan.id) (records_in bytes);
      given = subst handed items whole.2;
      headline = kept asked name bytes (FailsAt ran.shelf.reading_faults ran.shelf'.reading_faults) headline.here (journal plan input) none how taken hears headline.keeps;
      all = subst (λ (records : List Record). ArePresented false (journal plan input) packets (shown_of (default_listener plan.id) records))
          (sym (records_by Classic bytes (is_classic bytes (accepted_classic bytes sound)))) presented;
    }

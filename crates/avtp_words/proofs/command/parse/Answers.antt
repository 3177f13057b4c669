use Rattle.std.proofs.Common.{◌∙◌, sym, codes}
use Rattle.option_words.specs.Word.{texts}
use Rattle.avtp_words.proofs.Commands.{offence_alone, only_after, same_offence, offence_of_command, other_first, none_first}
use Rattle.avtp_words.proofs.command.parse.Goals as goal

pub returns-in-show-clause-only : goal.returns-in-show-clause-only
returns-in-show-clause-only c = only_after c.args.words.now c.in-Some.rest.now c.in-Some.command.now (codes "show") c.read_show.result c.in-Some.ensures.cases.0 (sym c.as_str.ensures.value ∙ c.in-show.is) c.read_show.ensures

pub returns-in-show-clause-only_offence : goal.returns-in-show-clause-only_offence
returns-in-show-clause-only_offence c = offence_alone c.args.words.now c.in-Some.rest.now c.in-Some.command.now (codes "show") c.read_show.result c.in-Some.ensures.cases.0 (sym c.as_str.ensures.value ∙ c.in-show.is) c.read_show.ensures

pub returns-in-check-clause-only : goal.returns-in-check-clause-only
returns-in-check-clause-only c = only_after c.args.words.now c.in-Some.rest.now c.in-Some.command.now (codes "check") c.read_check.result c.in-Some.ensures.cases.0 (sym c.as_str.ensures.value ∙ c.in-check.is) c.read_check.ensures

pub returns-in-check-clause-only_offence : goal.returns-in-check-clause-only_offence
returns-in-check-clause-only_offence c = offence_alone c.args.words.now c.in-Some.rest.now c.in-Some.command.now (codes "check") c.read_check.result c.in-Some.ensures.cases.0 (sym c.as_str.ensures.value ∙ c.in-check.is) c.read_check.ensures

pub returns-in-listen-clause-only : goal.returns-in-listen-clause-only
returns-in-listen-clause-only c = only_after c.args.words.now c.in-Some.rest.now c.in-Some.command.now (codes "listen") c.read_listen.result c.in-Some.ensures.cases.0 (sym c.as_str.ensures.value ∙ c.in-listen.is) c.read_listen.ensures

pub returns-in-listen-clause-only_offence : goal.returns-in-listen-clause-only_offence
returns-in-listen-clause-only_offence c = offence_alone c.args.words.now c.in-Some.rest.now c.in-Some.command.now (codes "listen") c.read_listen.result c.in-Some.ensures.cases.0 (sym c.as_str.ensures.value ∙ c.in-listen.is) c.read_listen.ensures

pub returns-in-talk-clause-only : goal.returns-in-talk-clause-only
returns-in-talk-clause-only c = only_after c.args.words.now c.in-Some.rest.now c.in-Some.command.now (codes "talk") c.read_talk.result c.in-Some.ensures.cases.0 (sym c.as_str.ensures.value ∙ c.in-talk.is) c.read_talk.ensures

pub returns-in-talk-clause-only_offence : goal.returns-in-talk-clause-only_offence
returns-in-talk-clause-only_offence c = offence_alone c.args.words.now c.in-Some.rest.now c.in-Some.command.now (codes "talk") c.read_talk.result c.in-Some.ensures.cases.0 (sym c.as_str.ensures.value ∙ c.in-talk.is) c.read_talk.ensures

pub returns-in-soak-clause-only : goal.returns-in-soak-clause-only
returns-in-soak-clause-only c = only_after c.args.words.now c.in-Some.rest.now c.in-Some.command.now (codes "soak") c.read_soak.result c.in-Some.ensures.cases.0 (sym c.as_str.ensures.value ∙ c.in-soak.is) c.read_soak.ensures

pub returns-in-soak-clause-only_offence : goal.returns-in-soak-clause-only_offence
returns-in-soak-clause-only_offence c = offence_alone c.args.words.now c.in-Some.rest.now c.in-Some.command.now (codes "soak") c.read_soak.result c.in-Some.ensures.cases.0 (sym c.as_str.ensures.value ∙ c.in-soak.is) c.read_soak.ensures

pub returns-in-agree-clause-only : goal.returns-in-agree-clause-only
returns-in-agree-clause-only c = only_after c.args.words.now c.in-Some.rest.now c.in-Some.command.now (codes "agree") c.read_agree.result c.in-Some.ensures.cases.0 (sym c.as_str.ensures.value ∙ c.in-agree.is) c.read_agree.ensures

pub returns-in-agree-clause-only_offence : goal.returns-in-agree-clause-only_offence
returns-in-agree-clause-only_offence c = offence_alone c.args.words.now c.in-Some.rest.now c.in-Some.command.now (codes "agree") c.read_agree.result c.in-Some.ensures.cases.0 (sym c.as_str.ensures.value ∙ c.in-agree.is) c.read_agree.ensures

pub returns-in-gateway-clause-only : goal.returns-in-gateway-clause-only
returns-in-gateway-clause-only c = only_after c.args.words.now c.in-Some.rest.now c.in-Some.command.now (codes "gateway") c.read_gateway.result c.in-Some.ensures.cases.0 (sym c.as_str.ensures.value ∙ c.in-gateway.is) c.read_gateway.ensures

pub returns-in-gateway-clause-only_offence : goal.returns-in-gateway-clause-only_offence
returns-in-gateway-clause-only_offence c = offence_alone c.args.words.now c.in-Some.rest.now c.in-Some.command.now (codes "gateway") c.read_gateway.result c.in-Some.ensures.cases.0 (sym c.as_str.ensures.value ∙ c.in-gateway.is) c.read_gateway.ensures

pub returns-in_default-clause-offence : goal.returns-in_default-clause-offence
returns-in_default-clause-offence c = offence_of_command (texts c.args.words.now) (none_first c.args.words.now c.in_default.ensures.cases)

pub returns-in_default-clause-only_offence : goal.returns-in_default-clause-only_offence
returns-in_default-clause-only_offence c position offence = same_offence (texts c.args.words.now) 1 position (returns-in_default-clause-offence c) offence

pub returns-in_default-as_str-clause-offence : goal.returns-in_default-as_str-clause-offence
returns-in_default-as_str-clause-offence c =
    offence_of_command (texts c.args.words.now) (other_first c.args.words.now c.in-Some.rest.now c.in-Some.command.now c.in-Some.ensures.cases.0
    (λ e. c.in_default-as_str.not-show (c.as_str.ensures.value ∙ e)) (λ e. c.in_default-as_str.not-check (c.as_str.ensures.value ∙ e)) (λ e. c.in_default-as_str.not-listen (c.as_str.ensures.value ∙ e)) (λ e. c.in_default-as_str.not-talk (c.as_str.ensures.value ∙ e)) (λ e. c.in_default-as_str.not-soak (c.as_str.ensures.value ∙ e)) (λ e. c.in_default-as_str.not-agree (c.as_str.ensures.value ∙ e)) (λ e. c.in_default-as_str.not-gateway (c.as_str.ensures.value ∙ e)))

pub returns-in_default-as_str-clause-only_offence : goal.returns-in_default-as_str-clause-only_offence
returns-in_default-as_str-clause-only_offence c position offence = same_offence (texts c.args.words.now) 1 position (returns-in_default-as_str-clause-offence c) offence

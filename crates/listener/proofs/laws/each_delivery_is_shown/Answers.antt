use Rattle.listener.proofs.Shown.{each_in_one_item, item_shown, no_other_shown}
use Rattle.listener.proofs.laws.each_delivery_is_shown.Goals as goal

pub returns-clause-in_one_item : goal.returns-clause-in_one_item
returns-clause-in_one_item c plan records = each_in_one_item plan records

pub returns-clause-shown : goal.returns-clause-shown
returns-clause-shown c = item_shown

pub returns-clause-no_other : goal.returns-clause-no_other
returns-clause-no_other c = no_other_shown

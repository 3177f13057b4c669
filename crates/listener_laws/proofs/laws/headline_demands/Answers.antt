use Rattle.listener.specs.Items.{made_of_one, unit_by}
use Rattle.listener_laws.specs.Anywhere.{unit_place}
use Rattle.listener_laws.proofs.laws.headline_demands.Goals as goal

pub returns-clause-presented : goal.returns-clause-presented
returns-clause-presented c shift p plan records shown place n d keeps h kind must =
    keeps.known place n (made_of_one d) (c.copies_anywhere_are_welcome.ensures shift p plan records place n d h kind must)

pub returns-clause-repeated : goal.returns-clause-repeated
returns-clause-repeated c shift p plan records shown earlier place n made d keeps h kind welcome before comes =
    keeps.repeats place n (made_of_one d) (c.copies_anywhere_are_further.ensures shift p plan records earlier place n made d h kind welcome before comes)

pub returns-clause-unit_presented : goal.returns-clause-unit_presented
returns-clause-unit_presented c shift p plan records shown part from n before last keeps h kind must =
    keeps.known (unit_place before last) n (unit_by before last) (c.units_anywhere_are_welcome.ensures shift p plan records part from n before last h kind must)

pub returns-clause-unit_repeated : goal.returns-clause-unit_repeated
returns-clause-unit_repeated c shift p plan records shown part earlier from n made before last keeps h kind welcome after comes =
    keeps.repeats (unit_place before last) n (unit_by before last) (c.units_anywhere_are_further.ensures shift p plan records part earlier from n made before last h kind welcome after comes)

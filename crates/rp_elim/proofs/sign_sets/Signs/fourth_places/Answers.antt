use Rattle.rp_elim.proofs.SignSets.{fourth_of_above, fourth_of_below, fourth_of_flat}
use Rattle.rp_elim.proofs.sign_sets.Signs.fourth_places.Goals as goal

pub returns-then-self-eq1 : goal.returns-then-self-eq1
returns-then-self-eq1 c k p q rs own next = fourth_of_above k p q rs c.args.self c.args.next own next c.if-self-eq1.true

pub returns-then-self-eq1-2 : goal.returns-then-self-eq1-2
returns-then-self-eq1-2 c k p q rs own next = fourth_of_below k p q rs c.args.self c.args.next own next c.if-self-eq1.false c.if-self-eq1-2.true

pub returns : goal.returns
returns c k p q rs own next = fourth_of_flat k p q rs c.args.self c.args.next own next c.if-self-eq1.false c.if-self-eq1-2.false

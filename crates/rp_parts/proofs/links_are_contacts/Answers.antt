use Rattle.rp_parts.proofs.Linked.{links_are_contacts_spec}
use Rattle.rp_parts.proofs.links_are_contacts.Goals as goal

pub returns : goal.returns
returns c = links_are_contacts_spec

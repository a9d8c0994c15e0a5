use Rattle.link_base.proofs.classes.list_classes.AddressListPayloadClass.check.Goals as goal

pub returns : goal.returns
returns g c = c.check_elements.ensures g.A.Address.SIZE

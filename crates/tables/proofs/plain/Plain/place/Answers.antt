use Rattle.tables.proofs.Plains.{sound_of, place_inside}
use Rattle.tables.proofs.plain.Plain.place.Goals as goal

pub returns-clause-inside : goal.returns-clause-inside
returns-clause-inside c = place_inside (sound_of c.args.self.now) c.args.s c.args.t c.args.i c.requires

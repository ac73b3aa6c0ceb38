use Rattle.std.proofs.Common.{rules}
use Rattle.station.proofs.Pouring.{pours_more, pours_same}
use Rattle.station.proofs.text.Page.put_finding.Goals as goal

pub returns-in-Ok-Found-clause-written : goal.returns-in-Ok-Found-clause-written
returns-in-Ok-Found-clause-written c =
    pours_same (search rules) (pours_more (pours_more c.put_byte-in-Ok-Found.ensures.written c.put_move.ensures.written) c.put_next-in-Ok-Found.ensures.written)

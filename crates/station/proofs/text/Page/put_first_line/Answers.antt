use Rattle.station.proofs.Pouring.{pours_more}
use Rattle.station.proofs.text.Page.put_first_line.Goals as goal

pub returns-clause-written : goal.returns-clause-written
returns-clause-written c =
    pours_more (pours_more (pours_more c.put_number.ensures.written c.put_next.ensures.written) c.put_next-2.ensures.written) c.put_byte.ensures.written

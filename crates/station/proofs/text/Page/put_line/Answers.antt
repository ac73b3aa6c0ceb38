use Rattle.std.proofs.Common.{sym, ap}
use Rattle.station.specs.Report.{next_number}
use Rattle.station.proofs.Pouring.{pours_more, pours_same}
use Rattle.station.proofs.text.Page.put_line.Goals as goal

pub returns-clause-written : goal.returns-clause-written
returns-clause-written c =
    pours_more (pours_more (pours_more c.put_number.ensures.written (pours_same (ap next_number (sym c.returned.ensures)) c.put_next.ensures.written)) c.put_finding.ensures.written) c.put_byte.ensures.written

use Rattle.std.proofs.Common.{◌≡◌, ℕ, ◌/◌, ◌%◌, [], ◌∷◌, ◌++◌, Some, decimal, refl, ap, ◌∙◌}
use Rattle.station.specs.Report.{move_text}
use Rattle.station.proofs.Pouring.{pours_more, pours_same}
use Rattle.station.proofs.text.Page.put_move.Goals as goal

parts : (u s i : ℕ) → s ≡ u / 4096 → i ≡ u % 4096 → move_text (Some u) ≡ decimal s ++ (46 ∷ []) ++ decimal i
parts u s i e d = rw (e, d) refl

pub returns-in-Some-clause-written : goal.returns-in-Some-clause-written
returns-in-Some-clause-written c =
    pours_same (ap move_text c.in-Some.is ∙ parts c.in-Some.u c.shuttle.result c.place.result c.shuttle.ensures c.place.ensures)
    (pours_more (pours_more c.put_number.ensures.written c.put_byte-in-Some.ensures.written) c.put_number-in-Some.ensures.written)

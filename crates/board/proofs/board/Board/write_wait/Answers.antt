use Rattle.std.proofs.Common.{sym, ◌∙◌, arith}
use Rattle.tables.specs.Meaning.{Meaning}
use Rattle.stores.specs.Holding.{Holding}
use Rattle.words.proofs.Checks.{then_first, left_alone_done}
use Rattle.questions.specs.Checks.{wait_check}
use Rattle.questions.proofs.Inside.{wait_waiting}
use Rattle.board.specs.Steps.{ahead}
use Rattle.board.proofs.Puts.{waiting_allowed, add_passes, placing_done}
use Rattle.board.proofs.board.Board.write_wait.Goals as goal

pub put_earlier-requires : goal.put_earlier-requires
put_earlier-requires g c =
    let m : Meaning = g.T.Table.meaning c.args.self.now.table in
    let a = then_first (ahead m (g.S.Store.holding c.args.self.now.store) c.args.u c.args.v) _ tt c.in_ok-judge.ensures.2 in
    let w = wait_waiting m.shuttles m.moves c.args.u c.args.v (then_first (wait_check m.shuttles m.moves c.args.u c.args.v) _ tt a) in
    record { cell = simp (c.shuttle.ensures, c.shuttle-2.ensures, c.place.ensures) (waiting_allowed m.shuttles m.moves c.args.u c.args.v w); value = simp c.place-2.ensures (omega (arith, w.to)) }

pub returns : goal.returns
returns g c =
    let m : Meaning = g.T.Table.meaning c.args.self.now.table in
    let h : Holding = g.S.Store.holding c.args.self.now.store in
    let j = c.in_ok-judge.ensures in
    let p = c.in_ok-put_earlier.ensures in
    let a = add_passes m h c.args.u c.args.v j.0 j.1 j.2 in
    record {
      does = placing_done m h c.args.u c.args.v j.0 j.1 j.2 _ (simp (c.shuttle.ensures, c.shuttle-2.ensures, c.place.ensures) at p.answer) (simp (c.shuttle.ensures, c.shuttle-2.ensures, c.place.ensures, c.place-2.ensures) at p.after) c.add.result c.add.ensures.answer _ c.add.ensures.after;
      refused = left_alone_done c.add.result _ _ (a ∙ sym c.add.ensures.answer);
    }

use Rattle.fp_text.proofs.Scan.{none_left, one_left, token_left}
use Rattle.fp_text.proofs.cursor.Tokens.next.Goals as goal

pub returns-then-start-end-clause-advances : goal.returns-then-start-end-clause-advances
returns-then-start-end-clause-advances c =
    let s = c.run_end-start.ensures in
    let e = c.run_end-end.ensures in
    none_left c.self.inside.source.now c.self.inside.place c.run_end-start.result c.run_end-end.result c.args.self.now
    (record { behind = s.behind; within = s.within; run = s.run; stops = s.stops })
    (record { behind = e.behind; within = e.within; run = e.run; stops = e.stops })
    c.if-start-end.true c.self.view_is

pub returns-clause-advances : goal.returns-clause-advances
returns-clause-advances c =
    let s = c.run_end-start.ensures in
    let e = c.run_end-end.ensures in
    one_left c.self.inside.source.now c.self.inside.place c.run_end-start.result c.run_end-end.result c.args.self.now
    (record { behind = s.behind; within = s.within; run = s.run; stops = s.stops })
    (record { behind = e.behind; within = e.within; run = e.run; stops = e.stops })
    c.if-start-end.false c.self.view_is

pub returns-clause-token : goal.returns-clause-token
returns-clause-token c =
    let s = c.run_end-start.ensures in
    let e = c.run_end-end.ensures in
    token_left c.self.inside.source.now c.self.inside.place c.run_end-start.result c.run_end-end.result c.args.self.now c.self.invariant.1
    (record { behind = s.behind; within = s.within; run = s.run; stops = s.stops })
    (record { behind = e.behind; within = e.within; run = e.run; stops = e.stops })
    c.if-start-end.false c.self.view_is

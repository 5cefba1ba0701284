-- `adding::edit_at` meets its contract. Assumes nothing.
use native.Mathlib.Omega.{arith}
use mathlib.Core.Path.{sym, ◌∙◌}
use Prim.Native.Nat.{ℕ}
use Rattle.adding.specs.Internal.Find.{Stands, Lands, From}
use Rattle.adding.proofs.Finds.{eqb_yes, eqb_no, name-byte, byte-some, stands-inside, find-put, find-covered, holds, past_is, past_fits, find-whole, stands-in, ends-in, find-list}
use Rattle.adding.proofs.+edit_at.Goals as goal
use Rattle.adding.proofs.+edit_at.Goals.{After-skip-skipped}

-- where passing over the nodes lands
landed :
    (t : ℕ) (c : After-skip-skipped t) → let a = c.args in
    (v : Stands a.text.now a.name.now a.at a.k) → (d : Lands v c.skip-skipped.result.place c.skip-skipped.result.wholes) × From v.number d.nodes
landed t c v = c.skip-skipped.ensures.is v (name-byte v)

pub stands_at-requires : goal.stands_at-requires
stands_at-requires t c = byte-some c.requires.2

pub put_from-requires : goal.put_from-requires
put_from-requires t c =
    let d = (landed t (goal.at.put_from-requires t c).After-skip-skipped c.requires.2).0 in
    (d.within, c.requires.1, c.requires.0, omega (arith, c.skip-skipped.ensures.few, c.requires.0))

pub returns-then-not-stands_at : goal.returns-then-not-stands_at
returns-then-not-stands_at t c = record {
  is = λ v. let d = landed t (goal.at.returns-then-not-stands_at t c).After-skip-skipped v in
      c.put_from.ensures ∙ find-put v d.0 d.1 (λ q. eqb_no c.stands_at.ensures c.if-not-stands_at.true q);
}

pub whole_at-requires : goal.whole_at-requires
whole_at-requires t c = stands-inside c.args.text.now c.skip-skipped.result.place _ (byte-some c.requires.2) (eqb_yes c.stands_at.ensures c.if-not-stands_at.false)

pub returns-then-whole_at : goal.returns-then-whole_at
returns-then-whole_at t c = record {
  is = λ v. find-covered v (landed t (goal.at.returns-then-whole_at t c).After-skip-skipped v).0 (eqb_yes c.stands_at.ensures c.if-not-stands_at.false)
      (sym c.whole_at.ensures ∙ c.if-whole_at.true);
}

pub past_node-requires : goal.past_node-requires
past_node-requires t c = stands-inside c.args.text.now c.skip-skipped.result.place _ (byte-some c.requires.2) (eqb_yes c.stands_at.ensures c.if-not-stands_at.false)

pub whole_from-requires : goal.whole_from-requires
whole_from-requires t c =
    let v = c.requires.2 in
    let h = holds v (landed t (goal.at.whole_from-requires t c).After-skip-skipped v).0 (eqb_yes c.stands_at.ensures c.if-not-stands_at.false)
    (sym c.whole_at.ensures ∙ c.if-whole_at.false) in (
      omega (arith, c.past_node.ensures, past_is v h),
      omega (arith, c.past_node.ensures, past_fits v h),
      c.requires.0,
      omega (arith, c.skip-skipped.ensures.few, c.requires.0),
    )

pub returns-then-k-name : goal.returns-then-k-name
returns-then-k-name t c = record {
  is = λ v.
      c.whole_from.ensures
      ∙ find-whole v (holds v (landed t (goal.at.returns-then-k-name t c).After-skip-skipped v).0 (eqb_yes c.stands_at.ensures c.if-not-stands_at.false)
      (sym c.whole_at.ensures ∙ c.if-whole_at.false)) c.past_node.ensures (sym c.if-k-name.true);
}

pub edit_at-requires : goal.edit_at-requires
edit_at-requires t c =
    let v = c.requires.2 in
    let h = holds v (landed t (goal.at.edit_at-requires t c).After-skip-skipped v).0 (eqb_yes c.stands_at.ensures c.if-not-stands_at.false)
    (sym c.whole_at.ensures ∙ c.if-whole_at.false) in
    (omega (arith, c.requires.1), (c.requires.0, omega (arith, c.requires.1), stands-in v h (λ q. c.if-k-name.false (sym q))))

pub over_list-requires : goal.over_list-requires
over_list-requires t c =
    let v = c.requires.2 in
    let h = holds v (landed t (goal.at.over_list-requires t c).After-skip-skipped v).0 (eqb_yes c.stands_at.ensures c.if-not-stands_at.false)
    (sym c.whole_at.ensures ∙ c.if-whole_at.false) in (
      c.requires.0,
      omega (arith, c.skip-skipped.ensures.few, c.requires.0),
      ends-in v h (λ q. c.if-k-name.false (sym q)) c.edit_at.result c.edit_at.ensures,
    )

pub returns : goal.returns
returns t c = record {
  is = λ v.
      c.over_list.ensures
      ∙ find-list v (holds v (landed t (goal.at.returns t c).After-skip-skipped v).0 (eqb_yes c.stands_at.ensures c.if-not-stands_at.false)
      (sym c.whole_at.ensures ∙ c.if-whole_at.false)) (λ q. c.if-k-name.false (sym q)) c.edit_at.result c.edit_at.ensures;
}

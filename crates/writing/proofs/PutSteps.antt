-- What the writing functions hand back at each end of theirs. Assumes nothing.
use mathlib.Core.Path.{◌≡◌, refl, ap, ◌∙◌}
use Prim.Native.Nat.{ℕ, zero, suc, ◌+◌, ◌-◌, ◌*◌, ◌/◌, ◌^◌, ◌≤◌, ◌<◌}
use mathlib.Core.Logic.{⊎_elim}
use mathlib.Core.List.{List}
use native.Mathlib.Nat.{suc-mul}
use native.Mathlib.Omega.{arith}
use lib.ListN.{length, set}
use Rattle.code.specs.Inside.{start_of}
use Rattle.logic.specs.Laws.Order.{lt-or}
use Rattle.reading.specs.declared.Level.{Level}
use Rattle.reading.specs.declared.Level.TheVariants.{Digits}
use Rattle.reading.specs.Reading.{first}
use Rattle.writing.specs.declared.WrittenTo.{WrittenTo}
use Rattle.writing.specs.Internal.Measure.{next_cell, StartAtPlace, NodeAt}
use Rattle.writing.specs.Internal.MeasureLaws.{node-list, list-node, next-list, all-later, list-skip}
use Rattle.writing.specs.Internal.Whole.{WholeUntil}
use Rattle.writing.specs.Internal.Put.{NodeWrote, ListWrote, NodePut, ListPut}
use Rattle.writing.proofs.PutLaws.{whole-wrote, other-size, held-wrote, none-wrote, in-wrote, out-wrote}
use Rattle.writing.proofs.MeasureSteps.{less, one_less, hand-inside, hand-outside}

-- ---- a node

pub whole-put :
    {codes : List ℕ} {at start size place byte r : ℕ} {text later : List ℕ} → 0 < size → WholeUntil codes at start size r → (r ≡ at → ⊥) →
    later ≡ set text place byte → NodePut codes at start size place byte text later (record { next = r; place = place + 1 })
whole-put {codes} {at} {start} {size} {place} {byte} {r} {text} {later} z m e f =
    record {
      is = λ l w c k b s. let t = m.whole e w k s in whole-wrote codes at w k place l c text later r t.0 1 t.1 refl (f ∙ ap (set text place) b);
      inside = m.inside;
      short = omega arith;
    }

-- a node that is not whole has children
pub has-children : {codes : List ℕ} {at start size r : ℕ} → WholeUntil codes at start size r → r ≡ at → 9 ≤ size
has-children {codes} {at} {start} {size} {r} m e = ⊎_elim (λ l. absurd (m.finest l e)) (λ l. l) (lt-or size 9)

pub held-put :
    {codes : List ℕ} {at start size place byte q : ℕ} {text one two three later : List ℕ} {r : WrittenTo} → at < length codes → WholeUntil codes at start size q →
    q ≡ at → one ≡ set text place byte → two ≡ set one (place + 1) 40 → ListPut codes at 9 start (size / 9) (place + 2) 48 two three r →
    later ≡ set three r.place 41 → NodePut codes at start size place byte text later (record { next = r.next; place = r.place + 1 })
held-put {codes} {at} {start} {size} {place} {byte} {q} {text} {one} {two} {three} {later} {r} h m n a b u d =
    record { is = go; inside = u.inside; short = omega (arith, u.short, has-children m n) }
  where
    go : (l : Level) (w : List ℕ) (c k : ℕ) → byte ≡ first l + c → NodeAt codes at w start size k → NodeWrote codes at w k place l c text later
        (record { next = r.next; place = r.place + 1 })
    go l w c zero e s = absurd (omega (arith, s.sized, has-children m n))
    go l w c (suc k) e s =
        let i = m.held n w (suc k) s in
        let j : (◌≡◌ {A = ℕ} 0 1 → ⊥) = λ z. omega arith in
        let o = other-size codes at w start size k s h i.0 i.1 0 i.2 j in
        let p : ListWrote codes at w k (place + 2) Digits 0 9 two three r = u.is Digits w 0 k refl (node-list codes at w start size k s h o) in
        held-wrote codes at w start size k s h i.0 i.1 0 i.2 j place l c text one two three later r.next r.place (a ∙ ap (set text place) e) b p d

-- ---- a list

pub none-put :
    {codes : List ℕ} {at left start size place byte : ℕ} {text : List ℕ} → at ≤ length codes → left ≡ 0 →
    ListPut codes at left start size place byte text text (record { next = at; place = place })
none-put {codes} {at} {left} {start} {size} {place} {byte} {text} h e =
    rw e
    (record { is = λ l w c k b s. none-wrote codes at w start size k place l c text s; inside = h; short = omega arith })

in-suc :
    (codes : List ℕ) (at left start size place byte : ℕ) (text mid later : List ℕ) (n r : WrittenTo) → at < length codes → start_of (next_cell codes at) < start + size →
    NodePut codes at start size place byte text mid n → ListPut codes n.next left (start + size) size n.place (byte + 1) mid later r →
    ListPut codes at (suc left) start size place byte text later r
in-suc codes at left start size place byte text mid later n r h i m u =
    record {
      is =
          λ l w c k b s.
          let t = m.is l _ c k b (list-node codes at w c left start size k s h i) in
          in-wrote codes at w k place l c left text mid later n r t
          (u.is l w (suc c) k (omega arith) (next-list codes at w c left start size k s n.next t.took t.past));
      inside = u.inside;
      short = omega (arith, m.short, u.short, suc-mul left (2 * size - 1));
    }

pub in-put :
    {codes : List ℕ} {at : ℕ} (left : ℕ) {start size place byte : ℕ} {text mid later : List ℕ} {n r : WrittenTo} → at < length codes → (left ≡ 0 → ⊥) →
    start_of (next_cell codes at) < start + size → NodePut codes at start size place byte text mid n →
    ListPut codes n.next (left - 1) (start + size) size n.place (byte + 1) mid later r → ListPut codes at left start size place byte text later r
in-put zero h z i m u = absurd (z refl)
in-put {codes} {at} (suc left) {start} {size} {place} {byte} {text} {mid} {later} {n} {r} h z i m u =
    in-suc codes at left start size place byte text mid later n r h i m (rw (less left) at u)

out-suc :
    (codes : List ℕ) (at left start size place byte : ℕ) (text later : List ℕ) (r : WrittenTo) → (at < length codes → start_of (next_cell codes at) < start + size → ⊥) →
    ListPut codes at left (start + size) size place (byte + 1) text later r → ListPut codes at (suc left) start size place byte text later r
out-suc codes at left start size place byte text later r n u =
    record {
      is =
          λ l w c k b s.
          let p = all-later codes at w c left start size k s n in
          out-wrote codes at w k place l c left text later r p (u.is l w (suc c) k (omega arith) (list-skip codes at w c left start size k s p));
      inside = u.inside;
      short = omega (arith, u.short, suc-mul left (2 * size - 1));
    }

pub out-put :
    {codes : List ℕ} {at : ℕ} (left : ℕ) {start size place byte : ℕ} {text later : List ℕ} {r : WrittenTo} → (left ≡ 0 → ⊥) →
    (at < length codes → start_of (next_cell codes at) < start + size → ⊥) → ListPut codes at (left - 1) (start + size) size place (byte + 1) text later r →
    ListPut codes at left start size place byte text later r
out-put zero z n u = absurd (z refl)
out-put {codes} {at} (suc left) {start} {size} {place} {byte} {text} {later} {r} z n u =
    out-suc codes at left start size place byte text later r n (rw (less left) at u)

-- ---- a list, cell by cell

-- what is written of the cells that are left completes what is to be written
pub record Putting (codes : List ℕ) (at left start size place byte : ℕ) (text : List ℕ) (next finest child ends name more : ℕ) (now : List ℕ) : Type 0 where
  pub rest : (later : List ℕ) (r : WrittenTo) → ListPut codes next more child size ends name now later r → ListPut codes at left start size place byte text later r
  pub inside : next ≤ length codes
  pub few : more ≤ 9
  pub cells : child + more * size ≤ 9 ^ 16
  pub room : ends + more * (2 * size - 1) ≤ 2 ^ 63
  pub names : name + more ≤ 255
  pub hand : StartAtPlace codes next finest
  pub long : length now ≡ length text

pub put-starts :
    {codes : List ℕ} {at left start size place byte finest : ℕ} {text : List ℕ} → at ≤ length codes → left ≤ 9 → start + left * size ≤ 9 ^ 16 →
    place + left * (2 * size - 1) ≤ 2 ^ 63 → byte + left ≤ 255 → StartAtPlace codes at finest → Putting codes at left start size place byte text at finest start place byte left text
put-starts h f i j k a = record { rest = λ later r u. u; inside = h; few = f; cells = i; room = j; names = k; hand = a; long = refl }

pub put-ends :
    {codes : List ℕ} {at left start size place byte : ℕ} {text : List ℕ} {next finest child ends name more : ℕ} {now : List ℕ} →
    Putting codes at left start size place byte text next finest child ends name more now → more ≡ 0 →
    ListPut codes at left start size place byte text now (record { next = next; place = ends })
put-ends v e = v.rest _ _ (none-put v.inside e)

module _
    {codes : List ℕ} {at left start size place byte : ℕ} {text : List ℕ} {next finest child ends name more : ℕ} {now : List ℕ}
    (v : Putting codes at left start size place byte text next finest child ends name more now) (z : more ≡ 0 → ⊥)
  where
    -- the cell has the code at hand inside
    pub put_in :
        {mid later : List ℕ} {n : WrittenTo} {first last from to : ℕ} → finest < child + size → NodePut codes next child size ends name now mid n →
        length mid ≡ length now → StartAtPlace codes n.next first → later ≡ mid → last ≡ n.next → from ≡ first → to ≡ n.place →
        Putting codes at left start size place byte text last from (child + size) to (name + 1) (more - 1) later
    put_in {mid} {later} {n} {first} l m e a e₁ e₂ e₃ e₄ =
        let h = hand-inside child size v.hand (omega (arith, v.cells, one_less more size z)) l in
        rw (e₁, e₂, e₃, e₄)
        (record {
          rest = λ later r u. v.rest later r (in-put more h.0 z h.1 m u);
          inside = m.inside;
          few = omega (arith, v.few);
          cells = omega (arith, v.cells, one_less more size z);
          room = omega (arith, v.room, one_less more (2 * size - 1) z, m.short);
          names = omega (arith, v.names);
          hand = a;
          long = e ∙ v.long;
        })

    -- or it has not
    pub put-out :
        {later : List ℕ} {last from to : ℕ} → (finest < child + size → ⊥) → later ≡ now → last ≡ next → from ≡ finest → to ≡ ends →
        Putting codes at left start size place byte text last from (child + size) to (name + 1) (more - 1) later
    put-out l e₁ e₂ e₃ e₄ =
        rw (e₁, e₂, e₃, e₄)
        (record {
          rest = λ later r u. v.rest later r (out-put more z (hand-outside child size v.hand l) u);
          inside = v.inside;
          few = omega (arith, v.few);
          cells = omega (arith, v.cells, one_less more size z);
          room = omega (arith, v.room, one_less more (2 * size - 1) z);
          names = omega (arith, v.names);
          hand = v.hand;
          long = v.long;
        })

-- The two passes over a good list, from the faces on: the length of its text, and the text. Assumes nothing.
use Rattle.std.specs.Prelude.{◌≡◌, refl, true, ◌⊎◌, List, [], ◌∷◌, ◌++◌, map, ℕ, ◌+◌, ◌-◌, ◌*◌, ◌≤◌, length, drop}
use Rattle.std.proofs.Common.{sym, ap, ap₂, ◌∙◌, inl, inr, ⊎_elim, arith, length-append}
use Rattle.std.proofs.lemmas.List.Edits.{sets, sets-eq}
use Rattle.logic.specs.Laws.Stores.{sets-append}
use Rattle.logic.specs.Laws.Order.{lt-or, three_ways}
use Rattle.ternary.specs.Digits.{value}
use Rattle.cell.specs.declared.Cell.{Cell}
use Rattle.cell.specs.declared.Arrangement.{Arrangement}
use Rattle.cell.specs.Cell.{IsCell}
use Rattle.code.specs.Code.{digits_of, path_of, cell_of}
use Rattle.code.specs.Inside.{start_of, end_of}
use Rattle.code.proofs.Laws.Inside.{size-pos, inside-within}
use Rattle.reading.specs.declared.Level.TheVariants.{Faces}
use Rattle.reading.specs.Reading.{Nodes, render}
use Rattle.reading.specs.declared.Profile.{Profile}
use Rattle.reading.specs.declared.Profile.TheVariants.{Full, Handheld}
use Rattle.reading.specs.Text.{level_of, heading, heading_length}
use Rattle.reading.proofs.Laws.Fits.{render-faces}
use Rattle.reading.specs.Ground.{cell_named, Cells}
use Rattle.reading.specs.Prefix.{Name, numbers_of, Prefix, AreNames, Ahead, AheadAll, InOrder}
use Rattle.reading.proofs.Laws.Named.{prefix-inside, names-of-cells}
use Rattle.reading.proofs.Laws.Rising.{ahead_before}
use Rattle.writing.specs.declared.WrittenTo.{WrittenTo}
use Rattle.reading.specs.Written.{side, built, nodes_for, written_text, under}
use Rattle.writing.specs.Write.{all_codes, InTurn, text_of, text_in}
use Rattle.reading.proofs.Laws.Built.{built-side}
use Rattle.writing.proofs.Laws.List.{codes-cells}
use Rattle.writing.specs.Internal.Take.{rests_of, Since, Each}
use Rattle.writing.specs.Internal.Measure.{names_from, ListAt, ListTakes}
use Rattle.writing.specs.Internal.Put.{ListWrote}

-- ---- cells in turn have names in turn

four-ways : (q p : Name) → Prefix q p ⊎ (Prefix p q ⊎ (Ahead q p ⊎ Ahead p q))
four-ways [] p = inl tt
four-ways (x ∷ q) [] = inr (inl tt)
four-ways (x ∷ q) (y ∷ p) =
    ⊎_elim (λ l. inr (inr (inl (inl l))))
    (⊎_elim
    (λ e.
    ⊎_elim (λ h. inl (e, h))
    (⊎_elim (λ h. inr (inl (sym e, h))) (⊎_elim (λ h. inr (inr (inl (inr (e, h))))) (λ h. inr (inr (inr (inr (sym e, h)))))))
    (four-ways q p))
    (λ l. inr (inr (inr (inl l)))))
    (three_ways x y)

before-ahead : (c x : Cell) → IsCell c → IsCell x → end_of c ≤ start_of x → Ahead (numbers_of c) (numbers_of x)
unfolding end_of
before-ahead c x v w h =
    ⊎_elim (λ i. absurd (let k = inside-within c x v w (prefix-inside c x v w i) in omega (arith, size-pos x, k.to)))
    (⊎_elim (λ i. absurd (let k = inside-within x c w v (prefix-inside x c w v i) in omega (arith, size-pos c, k.from)))
    (⊎_elim (λ a. a) (λ a. absurd (let k = ahead_before x c w v a in omega (arith, size-pos c, size-pos x)))))
    (four-ways (numbers_of c) (numbers_of x))

before-all : (c : Cell) (xs : List Cell) → IsCell c → Cells xs → InTurn (c ∷ xs) → AheadAll (numbers_of c) (map numbers_of xs)
before-all c [] v k t = tt
before-all c (x ∷ xs) v k t = (before-ahead c x v k.0 t.0.0, before-all c xs v k.1 (t.0.1, t.1.1))

pub in-turn-rise : (xs : List Cell) → Cells xs → InTurn xs → InOrder (map numbers_of xs)
in-turn-rise [] k t = tt
in-turn-rise (c ∷ cs) k t = (before-all c cs k.0 k.1 t, in-turn-rise cs k.1 t.1)

-- ---- the six faces

since-faces : (qs : List Name) → AreNames 6 15 qs → Each (Since (0 ∷ [])) qs
since-faces [] n = tt
since-faces ([] ∷ qs) n = absurd n.0
since-faces ((x ∷ q) ∷ qs) n = (⊎_elim (λ l. inr (inl l)) (λ l. inl (omega arith, tt)) (lt-or 0 x), since-faces qs n.1)

pub face-start : (b : ℕ) → start_of (cell_named (b ∷ [])) ≡ 0 + (b - 0) * 205891132094649
unfolding start_of path_of cell_named digits_of value
face-start b = omega arith

module _ (codes : List ℕ) (t : all_codes codes ≡ true) (turn : InTurn (map cell_of codes)) where
  cells : Cells (map cell_of codes)
  cells = codes-cells codes t

  pub top-at : ListAt codes 0 [] 0 6 0 205891132094649 15
  top-at =
      let n : AreNames 6 15 (names_from codes 0) = names-of-cells (map cell_of codes) cells in
      record {
        coded = t;
        standing = record { named = n; rising = in-turn-rise (map cell_of codes) cells turn; since = since-faces (names_from codes 0) n };
        numbered = λ b l u. ((omega arith, omega arith, tt), face-start b);
        sized = refl;
        depth = refl;
      }

-- the nodes of the faces are those that are written
pub faces-nodes : (codes : List ℕ) → side (under 15) 6 0 (rests_of [] (names_from codes 0)) ≡ built 15 6 (map numbers_of (map cell_of codes))
unfolding rests_of
faces-nodes codes = sym (built-side 15 6 (map numbers_of (map cell_of codes)))

-- ---- the length, whatever n and s are

heading-length : (p : Profile) (n s : ℕ) → length (heading p n s) ≡ heading_length p
heading-length Full n s = refl
heading-length (Handheld d) n s = refl

pub heading-most : (p : Profile) → heading_length p ≤ 8
heading-most Full = omega arith
heading-most (Handheld d) = omega arith

pub top-length :
    (codes : List ℕ) (next bytes count : ℕ) → ListTakes codes 0 [] 0 6 15 next bytes count → (p : Profile) (a : Arrangement) →
    bytes + heading_length p ≡ length (text_of p a codes)
unfolding text_of written_text
top-length codes next bytes count t p a =
    let ns : Nodes = nodes_for (map cell_of codes) in
    let f : length (render (level_of p) ns) ≡ bytes = ap (λ (x : Nodes). length (render (level_of p) x)) (sym (faces-nodes codes)) ∙ t.long (level_of p) in
    omega (arith, length-append (heading p a.north a.south) (render (level_of p) ns), heading-length p a.north a.south)

-- ---- the text

pub top-text :
    (p : Profile) (a : Arrangement) (codes text mid later : List ℕ) (r : WrittenTo) → length (text_of p a codes) ≤ length text →
    mid ≡ sets text 0 (heading p a.north a.south) → ListWrote codes 0 [] 15 (heading_length p) Faces 0 6 mid later r → later ≡ text_in p a codes text
unfolding text_of written_text text_in
top-text p a codes text mid later r h e u =
    let n : ℕ = length (text_of p a codes) in
    let z : 0 + n ≡ n = omega arith in
    let hs : List ℕ = heading p a.north a.south in
    let ns : Nodes = nodes_for (map cell_of codes) in
    let l : heading_length p ≡ 0 + length hs = omega (arith, heading-length p a.north a.south) in
    u.wrote.holds
    ∙ ap₂ (λ (b x : List ℕ). sets x (heading_length p) b) (ap (render Faces) (faces-nodes codes) ∙ sym (render-faces p ns)) e
    ∙ ap (λ (m : ℕ). sets (sets text 0 hs) m (render (level_of p) ns)) l
    ∙ sym (sets-append text 0 hs (render (level_of p) ns))
    ∙ sets-eq (text_of p a codes) text 0 (omega arith)
    ∙ ap (λ (m : ℕ). text_of p a codes ++ drop m text) z

-- and where it ends
pub top-ends :
    (p : Profile) (a : Arrangement) (codes mid later : List ℕ) (r : WrittenTo) → ListWrote codes 0 [] 15 (heading_length p) Faces 0 6 mid later r →
    r.place ≡ length (text_of p a codes)
unfolding text_of written_text
top-ends p a codes mid later r u =
    let hs : List ℕ = heading p a.north a.south in
    let ns : Nodes = nodes_for (map cell_of codes) in
    let e : length (render Faces (side (under 15) 6 0 (rests_of [] (names_from codes 0)))) ≡ length (render (level_of p) ns) =
    ap length (ap (render Faces) (faces-nodes codes) ∙ sym (render-faces p ns)) in
    omega (arith, u.wrote.ended, e, length-append hs (render (level_of p) ns), heading-length p a.north a.south)

-- Lying inside is an order of ranges: a cell lies inside another exactly when its finest cells are among the other's. Assumes nothing.
use Rattle.std.specs.Prelude.{◌≡◌, refl, ℕ, suc, ◌+◌, ◌-◌, ◌*◌, ◌/◌, ◌^◌, ◌≤◌, ◌<◌, true, false, ◌⊎◌, leb}
use Rattle.std.proofs.Math.Path.{sym, ap, ap₂}
use Rattle.std.proofs.Common.{◌∙◌, add-mul, suc-mul, mul_assoc, mul-le-mul_right, div-mul-le_self, le_of_mul-le-mul_right, one-mul, div-lt_iff_lt-mul, le_trans}
use Rattle.std.proofs.Math.Bool.{◌&&◌}
use Rattle.std.proofs.Math.Nat.{div-eq_of_lt-le, lt-div-mul-add}
use native.Mathlib.Omega.{arith}
use Rattle.std.proofs.Math.Logic.{inl, inr, ⊎_elim}
use borrow.Author.Tests.{le-leb, leb-true}
use Rattle.logic.specs.Laws.Bools.{and_left, and_right, clash}
use Rattle.logic.specs.Laws.Order.{lt-or, three_ways}
use Rattle.ternary.proofs.Laws.Powers.{nine-pos, nine-le, nine-lt, nine-split, nine-add, power-add, power_pos}
use Rattle.ternary.specs.Weave.{weave}
use Rattle.ternary.proofs.Laws.Weave.{weave-prefix, weave-one}
use Rattle.cell.specs.declared.Cell.{Cell}
use Rattle.cell.specs.Cell.{IsCell}
use Rattle.code.specs.Code.{path_of, cell_code_at, cell_code, cell_coded, is_cell_code, cell_of, is_code, size_of}
use Rattle.code.proofs.Laws.Code.{path-weave, path-small, coded-is-cell, coded-cell}
use Rattle.code.specs.Inside.{Inside, start_of, end_of, Within, lies_within}

-- a code without its resolution is the number of the first finest cell
pub start-code : (c : Cell) → IsCell c → cell_code c ≡ start_of c * 16 + c.resolution
unfolding cell_code cell_code_at start_of
start-code c v = refl

pub start-coded : (x : ℕ) → is_cell_code x ≡ true → x / 16 ≡ start_of (cell_coded x)
start-coded x t = let v = coded-is-cell x t in omega (arith, v.fine, coded-cell x t, start-code (cell_coded x) v)

pub start-at : (code : ℕ) → is_code code ≡ true → code / 256 ≡ start_of (cell_of code)
unfolding is_code cell_of
start-at code t = let e = start-coded (code / 16) t in omega arith

-- a cell's finest cells are among its face's
pub end-small : (c : Cell) → IsCell c → end_of c ≤ c.face * 205891132094649 + 205891132094649
unfolding end_of start_of size_of
end-small c v =
    let k = c.resolution in
    let m : suc (path_of c) * 9 ^ (15 - k) ≤ 9 ^ k * 9 ^ (15 - k) = mul-le-mul_right (9 ^ (15 - k)) (path-small c) in
    let s : suc (path_of c) * 9 ^ (15 - k) ≡ path_of c * 9 ^ (15 - k) + 9 ^ (15 - k) = suc-mul (path_of c) (9 ^ (15 - k)) in
    let e : 9 ^ k * 9 ^ (15 - k) ≡ 205891132094649 = nine-split k v.fine in
    omega arith

pub size-pos : (c : Cell) → 0 < size_of c
unfolding size_of
size-pos c = nine-pos (15 - c.resolution)

pub size_small : (c : Cell) → size_of c ≤ 205891132094649
unfolding size_of
size_small c = nine-le {i = 15 - c.resolution} {j = 15} (omega arith)

-- ---- p is q without its last digits, s to a digit of p, exactly when the ranges lie in one another

module _ (p q n s : ℕ) (n0 : 0 < n) (s0 : 0 < s) where
  pub range-of : q / n ≡ p → (p * (n * s) ≤ q * s) × (q * s + s ≤ p * (n * s) + n * s)
  range-of e =
      let low : p * n ≤ q = rw e at (div-mul-le_self q n) in
      let high : suc q ≤ p * n + n = rw e at (lt-div-mul-add {a = q} n0) in
      let a : p * n * s ≤ q * s = mul-le-mul_right s low in
      let b : suc q * s ≤ (p * n + n) * s = mul-le-mul_right s high in
      let c : suc q * s ≡ q * s + s = suc-mul q s in
      let d : (p * n + n) * s ≡ p * n * s + n * s = add-mul (p * n) n s in
      let f : p * n * s ≡ p * (n * s) = mul_assoc p n s in
      (omega arith, omega arith)

  pub of_range : p * (n * s) ≤ q * s → q * s + s ≤ p * (n * s) + n * s → q / n ≡ p
  of_range l h =
      let f : p * n * s ≡ p * (n * s) = mul_assoc p n s in
      let d : (p * n + n) * s ≡ p * n * s + n * s = add-mul (p * n) n s in
      let c : suc q * s ≡ q * s + s = suc-mul q s in
      let low : p * n ≤ q = le_of_mul-le-mul_right {k = s} (omega arith) s0 in
      let high : suc q ≤ p * n + n = le_of_mul-le-mul_right {m = suc q} {n = p * n + n} {k = s} (omega arith) s0 in
      let m : (p + 1) * n ≡ p * n + n = add-mul p 1 n ∙ ap (λ (x : ℕ). p * n + x) (one-mul n) in
      div-eq_of_lt-le n low (omega arith)

-- the ranges lie apart where the digits in front differ
before : (p q n s : ℕ) → 0 < n → q / n < p → q * s + s ≤ p * (n * s)
before p q n s n0 l =
    let h : suc q ≤ p * n = (div-lt_iff_lt-mul {k = n} {x = q} {y = p} n0).0 l in
    let b : suc q * s ≤ p * n * s = mul-le-mul_right s h in
    let c : suc q * s ≡ q * s + s = suc-mul q s in
    let f : p * n * s ≡ p * (n * s) = mul_assoc p n s in
    omega arith

after : (p q n s : ℕ) → p < q / n → p * (n * s) + n * s ≤ q * s
after p q n s l =
    let h : suc p * n ≤ q / n * n = mul-le-mul_right n l in
    let g : q / n * n ≤ q = div-mul-le_self q n in
    let a : suc p * n * s ≤ q * s = mul-le-mul_right s (le_trans h g) in
    let b : suc p * n * s ≡ suc p * (n * s) = mul_assoc (suc p) n s in
    let d : suc p * (n * s) ≡ p * (n * s) + n * s = suc-mul p (n * s) in
    omega arith

-- cells of two faces lie apart
apart : (c x : Cell) → IsCell c → c.face < x.face → end_of c ≤ start_of x
unfolding start_of
apart c x v l = let h = end-small c v in omega arith

-- ---- the theorem

module _ (c x : Cell) (v : IsCell c) (w : IsCell x) where
  -- the size of c is the size of x, nine times for each resolution between
  sizes : c.resolution ≤ x.resolution → 9 ^ (15 - c.resolution) ≡ 9 ^ (x.resolution - c.resolution) * 9 ^ (15 - x.resolution)
  sizes h =
      let e : 15 - c.resolution ≡ (x.resolution - c.resolution) + (15 - x.resolution) = omega (arith, w.fine) in
      ap (λ (n : ℕ). 9 ^ n) e ∙ nine-add (x.resolution - c.resolution) (15 - x.resolution)

  -- the path of x without its last digits
  prefix :
      c.resolution ≤ x.resolution →
      path_of x / 9 ^ (x.resolution - c.resolution) ≡ weave c.resolution (x.row / 3 ^ (x.resolution - c.resolution)) (x.column / 3 ^ (x.resolution - c.resolution))
  prefix h =
      let e : x.resolution ≡ c.resolution + (x.resolution - c.resolution) = omega arith in
      ap (λ (y : ℕ). y / 9 ^ (x.resolution - c.resolution)) (path-weave x ∙ ap (λ (k : ℕ). weave k x.row x.column) e)
      ∙ weave-prefix c.resolution (x.resolution - c.resolution) x.row x.column

  pub inside-within : Inside c x → Within c x
  unfolding start_of end_of size_of
  inside-within i =
      let n = 9 ^ (x.resolution - c.resolution) in
      let s = 9 ^ (15 - x.resolution) in
      let e : path_of x / n ≡ path_of c = prefix i.finer ∙ ap₂ (weave c.resolution) i.row i.column ∙ sym (path-weave c) in
      let g = range-of (path_of c) (path_of x) n s (nine-pos (x.resolution - c.resolution)) (nine-pos (15 - x.resolution)) e in
      let z : 9 ^ (15 - c.resolution) ≡ n * s = sizes i.finer in
      let y : path_of c * 9 ^ (15 - c.resolution) ≡ path_of c * (n * s) = ap (λ (a : ℕ). path_of c * a) z in
      let f : x.face ≡ c.face = i.face in
      record { from = omega arith; to = omega arith }

  within-face : Within c x → x.face ≡ c.face
  unfolding start_of end_of
  within-face i =
      let a = end-small c v in
      let b = end-small x w in
      let p = size-pos x in
      omega (arith, i.from, i.to)

  within-finer : Within c x → c.resolution ≤ x.resolution
  unfolding end_of size_of
  within-finer i =
      ⊎_elim
      (λ l. absurd
      (let m : 9 ^ (15 - c.resolution) < 9 ^ (15 - x.resolution) = nine-lt (15 - c.resolution) (15 - x.resolution) (omega (arith, v.fine)) in
      omega (arith, i.from, i.to)))
      (λ h. h)
      (lt-or x.resolution c.resolution)

  -- the row or column of x without its last digits is one of c's resolution
  cut_small : (a : ℕ) → c.resolution ≤ x.resolution → a < 3 ^ x.resolution → a / 3 ^ (x.resolution - c.resolution) < 3 ^ c.resolution
  cut_small a h l =
      let e : x.resolution ≡ c.resolution + (x.resolution - c.resolution) = omega arith in
      let p : 3 ^ x.resolution ≡ 3 ^ c.resolution * 3 ^ (x.resolution - c.resolution) = ap (λ (k : ℕ). 3 ^ k) e ∙ power-add c.resolution (x.resolution - c.resolution) in
      (div-lt_iff_lt-mul {k = 3 ^ (x.resolution - c.resolution)} {x = a} {y = 3 ^ c.resolution} (power_pos (x.resolution - c.resolution))).1 (omega arith)

  pub within-inside : Within c x → Inside c x
  unfolding start_of end_of size_of
  within-inside i =
      let f : x.face ≡ c.face = within-face i in
      let h : c.resolution ≤ x.resolution = within-finer i in
      let n = 9 ^ (x.resolution - c.resolution) in
      let s = 9 ^ (15 - x.resolution) in
      let z : 9 ^ (15 - c.resolution) ≡ n * s = sizes h in
      let y : path_of c * 9 ^ (15 - c.resolution) ≡ path_of c * (n * s) = ap (λ (a : ℕ). path_of c * a) z in
      let low : path_of c * (n * s) ≤ path_of x * s = omega (arith, i.from) in
      let high : path_of x * s + s ≤ path_of c * (n * s) + n * s = omega (arith, i.to) in
      let e : path_of x / n ≡ path_of c = of_range (path_of c) (path_of x) n s (nine-pos (x.resolution - c.resolution)) (nine-pos (15 - x.resolution)) low high in
      let one = weave-one c.resolution _ _ c.row c.column (cut_small x.row h w.rowed) (cut_small x.column h w.columned) v.rowed v.columned
      (sym (prefix h) ∙ e ∙ path-weave c) in
      record { face = f; finer = h; row = one.0; column = one.1 }

  -- a finest cell lies inside a cell exactly when its number is in the cell's range
  pub finest-inside : x.resolution ≡ 15 → start_of c ≤ start_of x → start_of x < end_of c → Inside c x
  unfolding end_of size_of
  finest-inside e l h =
      let one : 9 ^ (15 - x.resolution) ≡ 1 = ap (λ (k : ℕ). 9 ^ (15 - k)) e in
      within-inside (record { from = l; to = omega arith })

  pub inside-finest : Inside c x → (start_of c ≤ start_of x) × (start_of x < end_of c)
  unfolding end_of
  inside-finest i = let t = inside-within i in let p = size-pos x in (t.from, omega (arith, t.to))

  -- two cells of one face, the second no coarser: by the path of the second without its last digits
  same-face : c.resolution ≤ x.resolution → x.face ≡ c.face → Inside c x ⊎ ((end_of x ≤ start_of c) ⊎ (end_of c ≤ start_of x))
  unfolding start_of end_of size_of
  same-face h f =
      let n = 9 ^ (x.resolution - c.resolution) in
      let s = 9 ^ (15 - x.resolution) in
      let z : 9 ^ (15 - c.resolution) ≡ n * s = sizes h in
      let y : path_of c * 9 ^ (15 - c.resolution) ≡ path_of c * (n * s) = ap (λ (a : ℕ). path_of c * a) z in
      ⊎_elim
      (λ l. inr (inl (let b : path_of x * s + s ≤ path_of c * (n * s) = before (path_of c) (path_of x) n s (nine-pos (x.resolution - c.resolution)) l in omega arith)))
      (⊎_elim
      (λ e. inl (within-inside (let g = range-of (path_of c) (path_of x) n s (nine-pos (x.resolution - c.resolution)) (nine-pos (15 - x.resolution)) e in record
      { from = omega arith; to = omega arith })))
      (λ l. inr (inr (let b : path_of c * (n * s) + n * s ≤ path_of x * s = after (path_of c) (path_of x) n s l in omega arith))))
      (three_ways (path_of x / n) (path_of c))

  -- two cells, the second no coarser, lie one inside the other or apart
  pub nested-or-apart : c.resolution ≤ x.resolution → Inside c x ⊎ ((end_of x ≤ start_of c) ⊎ (end_of c ≤ start_of x))
  nested-or-apart h =
      let a = end-small c v in
      let b = end-small x w in
      ⊎_elim (λ l. inr (inl (apart x c w l)))
      (⊎_elim (λ e. same-face h e) (λ l. inr (inr (apart c x v l))))
      (three_ways x.face c.face)

-- cells of which neither lies inside the other have no finest cell in common
pub apart-ranges : (q p : Cell) → IsCell q → IsCell p → (Inside q p → ⊥) → (Inside p q → ⊥) → (end_of p ≤ start_of q) ⊎ (end_of q ≤ start_of p)
apart-ranges q p v w a b =
    ⊎_elim
    (λ h. ⊎_elim (λ i. absurd (b i)) (⊎_elim (λ l. inr l) (λ l. inl l)) (nested-or-apart p q w v (omega arith)))
    (λ h. ⊎_elim (λ i. absurd (a i)) (λ s. s) (nested-or-apart q p v w h))
    (lt-or p.resolution q.resolution)

-- the test tells exactly that
module _ (c x : Cell) where
  pub lies_within_lem : lies_within c x ≡ true → Within c x
  unfolding lies_within
  lies_within_lem e =
      record {
        from = leb-true _ _ (and_left (leb (start_of c) (start_of x)) (leb (end_of x) (end_of c)) e);
        to = leb-true _ _ (and_right (leb (start_of c) (start_of x)) (leb (end_of x) (end_of c)) e);
      }

  pub within-lies : Within c x → lies_within c x ≡ true
  unfolding lies_within
  within-lies w = ap₂ ◌&&◌ (le-leb _ _ w.from) (le-leb _ _ w.to)

  module _ (v : IsCell c) (w : IsCell x) where
    pub lies-inside : lies_within c x ≡ true → Inside c x
    lies-inside e = within-inside c x v w (lies_within_lem e)

    pub inside-lies : Inside c x → lies_within c x ≡ true
    inside-lies i = within-lies (inside-within c x v w i)

    -- ---- code order: by the first finest cell, and of one start the coarser cell first

    pub code-start : cell_code c ≤ cell_code x → start_of c ≤ start_of x
    code-start h = omega (arith, v.fine, w.fine, start-code c v, start-code x w)

    -- the finest cells of a cell that comes next in code order, and not inside, come after those of the first
    pub next-before : cell_code c < cell_code x → lies_within c x ≡ false → end_of c ≤ start_of x
    unfolding end_of
    next-before l e =
        ⊎_elim
        (λ h. ⊎_elim
        (λ i. absurd (let k = inside-within x c w v i in omega (arith, k.from, start-code c v, start-code x w)))
        (⊎_elim (λ a. a) (λ a. absurd (omega (arith, code-start (omega arith), size-pos x))))
        (nested-or-apart x c w v (omega arith)))
        (λ h. ⊎_elim
        (λ i. clash (sym (inside-lies i) ∙ e))
        (⊎_elim (λ a. absurd (omega (arith, code-start (omega arith), size-pos x))) (λ a. a))
        (nested-or-apart c x v w h))
        (lt-or x.resolution c.resolution)

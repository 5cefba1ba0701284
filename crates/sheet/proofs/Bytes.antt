-- A number's bytes compared with a sheet's, and put into a buffer, one by one. Assumes nothing.
use mathlib.Core.Path.{◌≡◌, refl, sym, ap, ◌∙◌}
use mathlib.Core.Bool.{Bool, true, false, ◌&&◌}
use mathlib.Core.List.{List, ◌∷◌, ◌++◌}
use Prim.Native.Nat.{ℕ, zero, suc, ◌+◌, ◌-◌, ◌/◌, ◌%◌, ◌≤◌, ◌<◌}
use native.Mathlib.Numerals.{add-one}
use native.Mathlib.Omega.{arith}
use lib.ListN.{length, drop, get_or, set, length-drop, drop_of_length-le}
use lib.Seq.{sets, drop-drop}
use lib.Dec.{eqb}
use borrow.Author.Tests.{eq-eqb, ne_eqb}
use Rattle.walk.specs.Laws.Walk.{byte_at}
use Rattle.logic.specs.Laws.Stores.{sets-append}
use Rattle.sheet.specs.declared.Record.{Record}
use Rattle.sheet.specs.Sheet.{low, bytes_of}
use Rattle.sheet.specs.Verdict.{starts}
use Rattle.sheet.proofs.Laws.Bytes.{length-low, length-bytes, starts-append, starts-short}

-- the lowest byte, and the others
low_step : (n x : ℕ) → 0 < n → low n x ≡ (x % 256) ∷ low (n - 1) (x / 256)
unfolding low
low_step zero x h = absurd (omega arith)
low_step (suc n) x h = let e : suc n - 1 ≡ n = omega arith in rw e

module _ (s : List ℕ) (i n x : ℕ) (h : 0 < n) where
  pub past_end : length s ≤ i → starts (low n x) (drop i s) ≡ false
  unfolding starts
  past_end k = rw (low_step n x h, drop_of_length-le s {i = i} k)

  module _ (k : i < length s) where
    here : starts (low n x) (drop i s) ≡ (eqb (get_or s i 0) (x % 256) && starts (low (n - 1) (x / 256)) (drop (i + 1) s))
    unfolding starts
    here = rw (low_step n x h, byte_at s i k)

    pub other_byte : (get_or s i 0 ≡ x % 256 → ⊥) → starts (low n x) (drop i s) ≡ false
    other_byte e = here ∙ rw (ne_eqb (get_or s i 0) (x % 256) e)

    pub same_byte : get_or s i 0 ≡ x % 256 → starts (low n x) (drop i s) ≡ starts (low (n - 1) (x / 256)) (drop (i + 1) s)
    same_byte e = here ∙ rw (eq-eqb (get_or s i 0) (x % 256) e)

pub no_bytes : (b : List ℕ) (n x : ℕ) → n ≡ 0 → starts (low n x) b ≡ true
unfolding starts low
no_bytes b n x e = rw e

-- one byte more is put
pub put_byte : (b : List ℕ) (i n x : ℕ) → 0 < n → sets b i (low n x) ≡ sets (set b i (x % 256)) (i + 1) (low (n - 1) (x / 256))
put_byte b i n x h = ap (sets b i) (low_step n x h) ∙ ap (λ (k : ℕ). sets (set b i (x % 256)) k (low (n - 1) (x / 256))) (sym (add-one i))

pub none-put : (b : List ℕ) (i n x : ℕ) → n ≡ 0 → sets b i (low n x) ≡ b
unfolding low
none-put b i n x e = rw e

-- ---- a record's five numbers

next-number : (s : List ℕ) (i k x : ℕ) (y : List ℕ) → i + 8 ≡ k → starts (low 8 x ++ y) (drop i s) ≡ (starts (low 8 x) (drop i s) && starts y (drop k s))
next-number s i k x y e =
    starts-append (low 8 x) y (drop i s)
    ∙ ap (λ (z : List ℕ). starts (low 8 x) (drop i s) && starts y z)
    (ap (λ (n : ℕ). drop n (drop i s)) (length-low 8 x) ∙ drop-drop 8 i s ∙ ap (λ (n : ℕ). drop n s) e)

five :
    (s : List ℕ) (i : ℕ) (r : Record) →
    starts (bytes_of r) (drop i s)
    ≡ (starts (low 8 r.code) (drop i s)
    && (starts (low 8 r.up) (drop (i + 8) s)
    && (starts (low 8 r.right) (drop (i + 16) s) && (starts (low 8 r.down) (drop (i + 24) s) && starts (low 8 r.left) (drop (i + 32) s)))))
unfolding bytes_of
five s i r =
    next-number s i (i + 8) r.code (low 8 r.up ++ (low 8 r.right ++ (low 8 r.down ++ low 8 r.left))) refl
    ∙ ap (λ (b : Bool). starts (low 8 r.code) (drop i s) && b)
    (next-number s (i + 8) (i + 16) r.up (low 8 r.right ++ (low 8 r.down ++ low 8 r.left)) (omega arith)
    ∙ ap (λ (b : Bool). starts (low 8 r.up) (drop (i + 8) s) && b)
    (next-number s (i + 16) (i + 24) r.right (low 8 r.down ++ low 8 r.left) (omega arith)
    ∙ ap (λ (b : Bool). starts (low 8 r.right) (drop (i + 16) s) && b) (next-number s (i + 24) (i + 32) r.down (low 8 r.left) (omega arith))))

-- too few bytes are left
pub too_short : (s : List ℕ) (i : ℕ) (r : Record) → length s - i < 40 → false ≡ starts (bytes_of r) (drop i s)
too_short s i r h = sym (starts-short (bytes_of r) (drop i s) (omega (arith, length-drop i s, length-bytes r)))

-- the first number that does not stand there decides
module _ (s : List ℕ) (i : ℕ) (r : Record) {p : Bool} where
  pub no_code : p ≡ starts (low 8 r.code) (drop i s) → p ≡ false → false ≡ starts (bytes_of r) (drop i s)
  no_code e h = sym (five s i r ∙ rw (sym e ∙ h))

  module _ {q : Bool} (e : p ≡ starts (low 8 r.code) (drop i s)) (t : p ≡ true) (e₁ : q ≡ starts (low 8 r.up) (drop (i + 8) s)) where
    pub no-up : q ≡ false → false ≡ starts (bytes_of r) (drop i s)
    no-up h = sym (five s i r ∙ rw (sym e ∙ t, sym e₁ ∙ h))

    module _ {m : Bool} (t₁ : q ≡ true) (e₂ : m ≡ starts (low 8 r.right) (drop (i + 16) s)) where
      pub no-right : m ≡ false → false ≡ starts (bytes_of r) (drop i s)
      no-right h = sym (five s i r ∙ rw (sym e ∙ t, sym e₁ ∙ t₁, sym e₂ ∙ h))

      module _ {f : Bool} (t₂ : m ≡ true) (e₃ : f ≡ starts (low 8 r.down) (drop (i + 24) s)) where
        pub no-down : f ≡ false → false ≡ starts (bytes_of r) (drop i s)
        no-down h = sym (five s i r ∙ rw (sym e ∙ t, sym e₁ ∙ t₁, sym e₂ ∙ t₂, sym e₃ ∙ h))

        pub by_left : {g : Bool} → f ≡ true → g ≡ starts (low 8 r.left) (drop (i + 32) s) → g ≡ starts (bytes_of r) (drop i s)
        by_left h e₄ = e₄ ∙ sym (five s i r ∙ rw (sym e ∙ t, sym e₁ ∙ t₁, sym e₂ ∙ t₂, sym e₃ ∙ h))

-- ---- five numbers put

put_next : (b : List ℕ) (i k x : ℕ) (y : List ℕ) → i + 8 ≡ k → sets b i (low 8 x ++ y) ≡ sets (sets b i (low 8 x)) k y
put_next b i k x y e =
    sets-append b i (low 8 x) y ∙ ap (λ (n : ℕ). sets (sets b i (low 8 x)) n y) (ap (λ (n : ℕ). i + n) (length-low 8 x) ∙ e)

pub put_five :
    {b₁ b₂ b₃ b₄ b₅ : List ℕ} (b : List ℕ) (i : ℕ) (r : Record) →
    b₁ ≡ sets b i (low 8 r.code) → b₂ ≡ sets b₁ (i + 8) (low 8 r.up) → b₃ ≡ sets b₂ (i + 16) (low 8 r.right) →
    b₄ ≡ sets b₃ (i + 24) (low 8 r.down) → b₅ ≡ sets b₄ (i + 32) (low 8 r.left) → b₅ ≡ sets b i (bytes_of r)
unfolding bytes_of
put_five {b₁} {b₂} {b₃} {b₄} {b₅} b i r e₁ e₂ e₃ e₄ e₅ =
    e₅
    ∙ ap (λ (z : List ℕ). sets z (i + 32) (low 8 r.left)) e₄
    ∙ sym (put_next b₃ (i + 24) (i + 32) r.down (low 8 r.left) (omega arith))
    ∙ ap (λ (z : List ℕ). sets z (i + 24) (low 8 r.down ++ low 8 r.left)) e₃
    ∙ sym (put_next b₂ (i + 16) (i + 24) r.right (low 8 r.down ++ low 8 r.left) (omega arith))
    ∙ ap (λ (z : List ℕ). sets z (i + 16) (low 8 r.right ++ (low 8 r.down ++ low 8 r.left))) e₂
    ∙ sym (put_next b₁ (i + 8) (i + 16) r.up (low 8 r.right ++ (low 8 r.down ++ low 8 r.left)) (omega arith))
    ∙ ap (λ (z : List ℕ). sets z (i + 8) (low 8 r.up ++ (low 8 r.right ++ (low 8 r.down ++ low 8 r.left)))) e₁
    ∙ sym (put_next b i (i + 8) r.code (low 8 r.up ++ (low 8 r.right ++ (low 8 r.down ++ low 8 r.left))) refl)

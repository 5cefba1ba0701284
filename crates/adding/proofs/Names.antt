-- The bytes of a code's name, and what adding its cell makes of the lent bytes. Assumes nothing.
use Rattle.std.specs.Prelude.{Err, Ok, Result}
use Rattle.reading.specs.declared.Refused.{Refused}
use mathlib.Core.Path.{◌≡◌, refl, sym, ap, ap₂, ◌∙◌, subst}
use mathlib.Core.Bool.{Bool, true, false, not}
use mathlib.Core.List.{List, ◌++◌}
use Prim.Native.Nat.{ℕ, zero, suc, ◌+◌, ◌≤◌}
use native.Mathlib.Omega.{arith}
use lib.ListN.{length, take, drop, get_or, length-append, length-drop}
use lib.Seq.{take_at, length-take-le, get_or-take}
use borrow.Author.Tests.{le-ltb, ltb-false}
use Rattle.logic.specs.Refusal.{refuse, ◌otherwise◌, given}
use Rattle.logic.specs.Laws.Refusal.{passes, both, allowed}
use Rattle.cell.specs.declared.Cell.{Cell}
use Rattle.code.specs.Code.{is_code, cell_of}
use Rattle.code.proofs.Laws.Code.{code-passes, code-is-cell}
use Rattle.name.specs.Name.{name_of, code_name_refusal, named, name_in}
use Rattle.name.specs.Laws.Name.{length-name}
use Rattle.reading.specs.declared.Profile.{Profile}
use Rattle.reading.specs.Text.{heading_length}
use Rattle.reading.specs.TextReading.{is_text, profile_of, body_start}
use Rattle.adding.specs.declared.Edit.{Edit}
use Rattle.adding.specs.Add.{text_with, keeps_with, size_refusal, with_refusal, resized, placed, length_after, Holding, Gains}
use Rattle.adding.proofs.Laws.Add.{with-text, with-heading}
use Rattle.adding.specs.Internal.Become.{Becomes}
use Rattle.adding.specs.Internal.Edit.{edited, EditFits}
use Rattle.adding.specs.Internal.Fit.{breaks}
use Rattle.adding.proofs.Internal.WithLaws.{cell_bytes, text_edit, name-bytes, edited-with, edit-fits, keeps-edit}

-- ---- the name

-- its n bytes stand in front
pub record Spelt (code n : ℕ) (bytes : List ℕ) : Type 0 where
  pub fits : n ≤ length bytes
  pub short : length (take n bytes) ≤ 16
  pub is : take n bytes ≡ cell_bytes (cell_of code)
  pub letters : n ≡ (cell_of code).resolution + 1
  pub first : get_or bytes 0 0 ≡ 78 + (cell_of code).face

module _ (code : ℕ) (v : is_code code ≡ true) (before : List ℕ) (h : length before ≡ 16) where
  few : length (name_of (cell_of code)) ≤ 16
  few = omega (arith, length-name (cell_of code), (code-is-cell code v).fine)

  passed : code_name_refusal code (length before) ≡ 0
  unfolding code_name_refusal
  passed = passes _ (code-passes code v) ∙ ap (λ (b : Bool). refuse b 8) (le-ltb (length before) (length (name_of (cell_of code))) (omega (arith, few)))

  module _ {r : Result ℕ ℕ} (e : r ≡ named (code_name_refusal code (length before)) (length (name_of (cell_of code)))) where
    given-letters : r ≡ Ok (length (name_of (cell_of code)))
    unfolding named
    given-letters = e ∙ ap (λ (x : ℕ). named x (length (name_of (cell_of code)))) passed

    pub not-nameless : {q : ℕ} → r ≡ Err q → ⊥
    not-nameless f = let g = given-letters in let z : ◌≡◌ {A = ℕ} 0 1 = cc in omega arith

    pub name-spelt : {after : List ℕ} {n : ℕ} → after ≡ given (code_name_refusal code (length before)) (name_in code before) before → r ≡ Ok n → Spelt code n after
    unfolding name_in given
    name-spelt {after} {n} f q =
        let l : n ≡ length (name_of (cell_of code)) = let g = given-letters in cc in
        let a : after ≡ name_of (cell_of code) ++ drop (length (name_of (cell_of code))) before = f ∙ ap (λ (x : ℕ). given x (name_in code before) before) passed in
        let t : take n after ≡ cell_bytes (cell_of code) =
        ap₂ take l a ∙ take_at (name_of (cell_of code)) (drop (length (name_of (cell_of code))) before) (length (name_of (cell_of code))) refl ∙ name-bytes (cell_of code) in
        let m : length after ≡ 16 =
        omega (
          arith,
          ap length a,
          length-append (name_of (cell_of code)) (drop (length (name_of (cell_of code))) before),
          length-drop (length (name_of (cell_of code))) before,
          few,
        ) in
        record {
          fits = omega (arith, few);
          short = omega (arith, length-take-le n after (omega (arith, few)), few);
          is = t;
          letters = l ∙ length-name (cell_of code);
          first =
              sym (get_or-take n after 0 0 (omega (arith, length-name (cell_of code))))
              ∙ ap (λ (x : List ℕ). get_or x 0 0) t;
        }

-- the same for any code that has a name: the first bytes are the name's
pub name-front :
    (code : ℕ) (before : List ℕ) → length before ≡ 16 → {r : Result ℕ ℕ} {after : List ℕ} {n : ℕ} → r ≡ named (code_name_refusal code (length before)) (length (name_of (cell_of code))) →
    after ≡ given (code_name_refusal code (length before)) (name_in code before) before → r ≡ Ok n → (n ≤ 16) × (n ≤ length after) × (take n after ≡ name_of (cell_of code))
unfolding code_name_refusal name_in given named
name-front code before h {r} {after} {n} e f q = go (code_name_refusal code (length before)) refl e f
  where
    m : List ℕ
    m = name_of (cell_of code)

    go :
        (z : ℕ) → code_name_refusal code (length before) ≡ z → r ≡ named z (length m) → after ≡ given z (name_in code before) before →
        (n ≤ 16) × (n ≤ length after) × (take n after ≡ m)
    go zero k a b =
        let l : n ≡ length m = cc in
        let s : length m ≤ length before = ltb-false (length before) (length m) (allowed 7 _ (both _ _ k).1) in (
          omega arith,
          omega (arith, ap length b, length-append m (drop (length m) before)),
          ap₂ take l b ∙ take_at m (drop (length m) before) (length m) refl,
        )
    go (suc z) k a b = let y : ◌≡◌ {A = ℕ} 0 1 = cc in absurd (omega arith)

-- ---- it is held again

size_fits : (n room : ℕ) → size_refusal n room ≡ 0 → (n ≤ 65536) × (n ≤ room)
unfolding size_refusal
size_fits n room e = let f = both _ _ e in (ltb-false 65536 n (allowed 12 _ f.0), ltb-false room n (allowed 7 _ f.1))

held-again :
    {p : Profile} {bytes after u : List ℕ} {end : ℕ} {r : Result ℕ Refused} → Holding p bytes end → is_text u ≡ true → profile_of u ≡ p → Becomes u bytes after r →
    Holding p after (length_after r end)
unfolding resized placed given
held-again {p} {bytes} {after} {u} {end} {r} h t o b = go (size_refusal (length u) (length bytes)) refl b.answer b.bytes
  where
    go :
        (q : ℕ) → size_refusal (length u) (length bytes) ≡ q → r ≡ resized q (length u) → after ≡ placed q u bytes → Holding p after (length_after r end)
    go zero z a f =
        let s = size_fits (length u) (length bytes) z in
        let l : length after ≡ length bytes = omega (arith, ap length f, length-append u (drop (length u) bytes), length-drop (length u) bytes, s.1) in
        let k : take (length u) after ≡ u = ap (take (length u)) f ∙ take_at u (drop (length u) bytes) (length u) refl in
        subst (λ (x : Result ℕ Refused). Holding p after (length_after x end)) (sym a)
        (record { fits = omega (arith, l, s.1); small = s.0; text = ap is_text k ∙ t; profiled = ap profile_of k ∙ o })
    go (suc q) z a f =
        subst (λ (x : Result ℕ Refused). Holding p after (length_after x end)) (sym a) (subst (λ (x : List ℕ). Holding p x end) (sym f) h)

-- ---- the text

module _ {p : Profile} {bytes : List ℕ} {end : ℕ} (h : Holding p bytes end) (code : ℕ) (v : is_code code ≡ true) (name : List ℕ) (n : name ≡ cell_bytes (cell_of code)) where
  abbrev t : List ℕ
  t = take end bytes

  abbrev c : Cell
  c = cell_of code

  pub start : body_start t ≡ heading_length p
  start = ap heading_length h.profiled

  module _ {e : Edit} (i : e ≡ text_edit t h.text c (code-is-cell code v)) where
    pub add-fits : EditFits end (length name) e
    add-fits =
        let f = edit-fits t h.text c (code-is-cell code v) in
        subst (λ (x : ℕ). EditFits x (length name) e) (length-take-le end bytes h.fits)
        (subst (λ (x : List ℕ). EditFits (length t) (length x) e) (sym n)
        (subst (λ (x : Edit). EditFits (length t) (length (cell_bytes c)) x) (sym i) f))

    -- whether it breaks the profile
    keeps-is : {face digits : ℕ} {r : Bool} → face ≡ c.face → digits ≡ c.resolution → r ≡ breaks p face digits e → keeps_with t c ≡ not r
    keeps-is {face} {digits} {r} f d q =
        keeps-edit t h.text c (code-is-cell code v)
        ∙ ap not
        (sym (q ∙ ap₂ (λ (w : ℕ) (z : ℕ). breaks p w z e) f d ∙ ap₂ (λ (w : Profile) (z : Edit). breaks w c.face c.resolution z) (sym h.profiled) i))

    module _ {face digits : ℕ} {r : Bool} (f : face ≡ c.face) (d : digits ≡ c.resolution) (q : r ≡ breaks p face digits e) where
      pub add-breaks : {a : Result ℕ Refused} → r ≡ true → a ≡ Err (record { refusal = 15; place = 0 }) → Gains t c bytes bytes a × Holding p bytes (length_after a end)
      unfolding with_refusal resized placed given ◌otherwise◌
      add-breaks {a} y z =
          let k : keeps_with t c ≡ false = keeps-is f d q ∙ ap not y in
          let w : with_refusal t c (length bytes) ≡ 15 = ap (λ (u : Bool). refuse (not u) 15 otherwise size_refusal (length (text_with t c)) (length bytes)) k in (
            record {
              answer = z ∙ sym (ap (λ (u : ℕ). resized u (length (text_with t c))) w);
              bytes = sym (ap (λ (u : ℕ). placed u (text_with t c) bytes) w);
            },
            subst (λ (u : Result ℕ Refused). Holding p bytes (length_after u end)) (sym z) h,
          )

      pub add-gains :
          {after : List ℕ} {a : Result ℕ Refused} → r ≡ false → Becomes (edited name t e) bytes after a → Gains t c bytes after a × Holding p after (length_after a end)
      unfolding with_refusal
      add-gains {after} {a} y g =
          let k : keeps_with t c ≡ true = keeps-is f d q ∙ ap not y in
          let w : with_refusal t c (length bytes) ≡ size_refusal (length (text_with t c)) (length bytes) = passes _ (ap (λ (u : Bool). refuse (not u) 15) k) in
          let u : edited name t e ≡ text_with t c =
          ap₂ (λ (x : List ℕ) (y : Edit). edited x t y) n i ∙ edited-with t h.text c (code-is-cell code v) in
          let b : Becomes (text_with t c) bytes after a = subst (λ (x : List ℕ). Becomes x bytes after a) u g in (
            record {
              answer = b.answer ∙ sym (ap (λ (u : ℕ). resized u (length (text_with t c))) w);
              bytes = b.bytes ∙ sym (ap (λ (u : ℕ). placed u (text_with t c) bytes) w);
            },
            held-again h (with-text t h.text c (code-is-cell code v) k) ((with-heading t h.text c (code-is-cell code v) k).0 ∙ h.profiled) b,
          )

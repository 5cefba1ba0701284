-- The ways of a code into the text: the cell of the last fix is there already; else adding's two answers. Assumes nothing.
use Rattle.std.specs.Prelude.{Err, Ok, Result}
use mathlib.Core.Path.{◌≡◌, refl, sym, ap, ap₂, ◌∙◌, subst}
use mathlib.Core.Bool.{true}
use mathlib.Core.List.{List, ◌++◌}
use Prim.Native.Nat.{ℕ, zero, suc}
use native.Mathlib.Omega.{arith}
use lib.ListN.{length, take, drop, take-append-drop}
use lib.Seq.{take_at, length-take-le}
use borrow.Author.Tests.{le-ltb}
use Rattle.logic.specs.Refusal.{◌otherwise◌, given}
use Rattle.cell.specs.declared.Cell.{Cell}
use Rattle.code.specs.Code.{is_code, cell_of}
use Rattle.code.proofs.Laws.Code.{code-is-cell}
use Rattle.reading.specs.declared.Profile.TheVariants as profile-as
use Rattle.adding.specs.Add.{text_with, keeps_with, size_refusal, with_refusal, resized, placed, Holding, Gains}
use Rattle.adding.proofs.Laws.Add.{full-keeps, with-again}
use Rattle.flight.specs.declared.Recording.{Recording}
use Rattle.flight.specs.Recording.{fix_taken, taken, taken_text, Records, recording_after}
use Rattle.logic.specs.Laws.Answer.{err-is}
use Rattle.reading.specs.declared.Refused.{Refused}

-- what is to be shown of an answer and the bytes at exit
abbrev pub Takes : Result ℕ ℕ → (bytes : List ℕ) (m : Recording) (r : Result Recording ℕ) (exit : List ℕ) → Type 0
Takes a bytes m r exit =
    (r ≡ taken a (length bytes) (take m.length bytes)) × ((exit ≡ taken_text a bytes (take m.length bytes)) × Records exit (recording_after r m))

module _ (bytes : List ℕ) (m : Recording) (h : Records bytes m) (code : ℕ) (v : is_code code ≡ true) where
  abbrev t : List ℕ
  t = take m.length bytes

  abbrev c : Cell
  c = cell_of code

  long : length t ≡ m.length
  long = length-take-le m.length bytes h.holds.fits

  keeps : keeps_with t c ≡ true
  keeps = full-keeps t h.holds.text c (code-is-cell code v) h.holds.profiled

  -- the cell of the last fix
  module _ (e : code ≡ m.last) where
    same : text_with t c ≡ t
    same = let f = h.last (subst (λ (x : ℕ). is_code x ≡ true) e v) in ap (λ (x : ℕ). text_with t (cell_of x)) e ∙ f

    none : with_refusal t c (length bytes) ≡ 0
    unfolding with_refusal size_refusal ◌otherwise◌
    none =
        let n : length (text_with t c) ≡ m.length = ap length same ∙ long in
        rw (keeps, le-ltb 65536 (length (text_with t c)) (omega (arith, h.holds.small)), le-ltb (length bytes) (length (text_with t c)) (omega (arith, h.holds.fits)))

    pub takes-last : Takes (Ok code) bytes m (Ok m) bytes
    unfolding taken fix_taken taken_text placed given
    takes-last = (
      (λ i. Ok (record { length = (sym long ∙ sym (ap length same)) i; last = sym e i })) ∙ sym (ap (λ (x : ℕ). fix_taken x (length (text_with t c)) code) none),
      (
        sym
            (ap (λ (x : ℕ). placed x (text_with t c) bytes) none
            ∙ ap₂ (λ (x : List ℕ) (y : ℕ). x ++ drop y bytes) same (ap length same ∙ long)
            ∙ take-append-drop m.length bytes),
        h,
      ),
    )

  -- the cell is added, or refused
  module _ {after : List ℕ} where
    pub takes-added :
        {n : ℕ} → Gains t c bytes after (Ok n) → Holding profile-as.Full after n → Takes (Ok code) bytes m (Ok (record { length = n; last = code })) after
    unfolding taken fix_taken taken_text resized placed given
    takes-added {n} g k = go (with_refusal t c (length bytes)) refl g.answer g.bytes
      where
        u : List ℕ
        u = text_with t c

        go :
            (w : ℕ) → with_refusal t c (length bytes) ≡ w → Ok n ≡ resized w (length u) → after ≡ placed w u bytes →
            Takes (Ok code) bytes m (Ok (record { length = n; last = code })) after
        go zero q f b =
            let i : n ≡ length u = cc in
            let w : take n after ≡ u = ap₂ take i b ∙ take_at u (drop (length u) bytes) (length u) refl in (
              ap (λ (x : ℕ). Ok (record { length = x; last = code })) i ∙ sym (ap (λ (x : ℕ). fix_taken x (length u) code) q),
              (
                b ∙ sym (ap (λ (x : ℕ). placed x u bytes) q),
                record {
                  holds = k;
                  last = λ z. ap (λ (x : List ℕ). text_with x c) w ∙ with-again t h.holds.text c (code-is-cell code v) keeps ∙ sym w;
                },
              ),
            )
        go (suc w) q f b = let z : ◌≡◌ {A = ℕ} 0 1 = cc in absurd (omega arith)

    pub takes-refused : {r p : ℕ} → Gains t c bytes after (Err (record { refusal = r; place = p })) → Takes (Ok code) bytes m (Err r) after
    unfolding taken fix_taken taken_text resized placed given
    takes-refused {r} {p} g = go (with_refusal t c (length bytes)) refl g.answer g.bytes
      where
        u : List ℕ
        u = text_with t c

        go :
            (w : ℕ) → with_refusal t c (length bytes) ≡ w → Err (record { refusal = r; place = p }) ≡ resized w (length u) → after ≡ placed w u bytes →
            Takes (Ok code) bytes m (Err r) after
        go zero q f b = let z : ◌≡◌ {A = ℕ} 0 1 = cc in absurd (omega arith)
        go (suc w) q f b =
            let i : r ≡ suc w = ap (λ (x : Refused). x.refusal) (err-is f) in (
              ap Err i ∙ sym (ap (λ (x : ℕ). fix_taken x (length u) code) q),
              (b ∙ sym (ap (λ (x : ℕ). placed x u bytes) q), subst (λ (x : List ℕ). Records x m) (sym b) h),
            )

pub takes_none : (q : ℕ) (bytes : List ℕ) (m : Recording) → Records bytes m → Takes (Err q) bytes m (Err q) bytes
unfolding taken taken_text
takes_none q bytes m h = (refl, (refl, h))

-- A listing in its room, the names in front of all but the last byte and a line feed behind them; and the three listings, or the number. Assumes nothing.
use Rattle.std.specs.Prelude.{None, Option, Some}
use mathlib.Core.Path.{◌≡◌, refl, sym, ap, ◌∙◌, subst}
use mathlib.Core.Bool.{true}
use mathlib.Core.Logic.{inl, inr}
use mathlib.Core.List.{List, [], ◌∷◌, ◌++◌}
use Prim.Native.Nat.{ℕ, zero, suc, ◌+◌, ◌-◌, ◌*◌, ◌≤◌, ◌<◌}
use native.Mathlib.Numerals.{add-one}
use native.Mathlib.Omega.{arith}
use lib.ListN.{length, take, drop, set, length-append, length-drop, length-set}
use lib.Seq.{take-suc-set, take-append-le, length-take-le}
use Rattle.console.specs.Input.{Fits}
use Rattle.console.specs.Names.{NamesWritten}
use Rattle.report.specs.Put.{Put}
use Rattle.report.specs.Lines.{number_line}
use Rattle.report.proofs.Laws.Put.{put-taken}
use Rattle.comparing.specs.Compare.{ThreeLists, lists, shared_codes, compare_place}
use Rattle.comparing.proofs.Laws.Answer.{AllInFront}
use Rattle.compare.specs.Loaded.{bytes_of}
use Rattle.compare.specs.declared.Shown.{Shown}
use Rattle.compare.specs.Printed.{ListingWritten, ThreePrinted, ListingsWritten}

module _ (codes out ys : List ℕ) (end : ℕ) (h : 18 ≤ length out) (l : length ys ≡ length (take (length out - 1) out)) (w : NamesWritten codes ys end) where
  abbrev room : List ℕ
  room = ys ++ drop (length out - 1) out

  short : length ys ≡ length out - 1
  short = l ∙ length-take-le (length out - 1) out (omega arith)

  whole : length room ≡ length out
  whole = omega (arith, short, length-append ys (drop (length out - 1) out), length-drop (length out - 1) out)

  pub end-inside : end < length room
  end-inside = omega (arith, whole, short, w.fits)

  pub end-small : end + 1 ≤ length out
  end-small = omega (arith, short, w.fits)

  pub listing-written : ListingWritten codes (set room end 10) (end + 1)
  listing-written =
      record {
        from = w.from;
        lines =
            ap (λ (n : ℕ). take n (set room end 10)) (add-one end) ∙ take-suc-set room end 10 end-inside
            ∙ ap (λ (x : List ℕ). x ++ (10 ∷ [])) (take-append-le end ys (drop (length out - 1) out) w.fits ∙ w.names);
        some = w.some;
        all = λ k. w.all (omega (arith, short, whole, length-set room end 10));
        fits = omega (arith, end-inside, length-set room end 10);
      }

-- what does not have room without the last byte does not have it with one
pub listing-unprinted : (codes out ys : List ℕ) → 18 ≤ length out → length ys ≡ length (take (length out - 1) out) → length ys < 17 * length codes → length (ys ++ drop (length out - 1) out)
    < 17 * length codes + 1
listing-unprinted codes out ys h l w =
    omega (arith, length-take-le (length out - 1) out (omega arith), length-append ys (drop (length out - 1) out), length-drop (length out - 1) out)

pub listings-written :
    (t u : List ℕ) {q a b c : ℕ} {lent later rooms : ThreeLists} {shown : Shown} → (q ≡ 0) × AllInFront (shared_codes t u) lent later a b c →
    ThreePrinted (lists (take a later.firsts) (take b later.seconds) (take c later.boths)) rooms shown → ListingsWritten q t u rooms shown
listings-written t u {rooms = rooms} {shown} k (inl w) =
    subst (λ (n : ℕ). ListingsWritten n t u rooms shown) (sym k.0) (inl (record {
      done = w.done;
      firsts = subst (λ (l : List ℕ). ListingWritten l rooms.firsts shown.firsts) k.1.firsts.are w.firsts;
      seconds = subst (λ (l : List ℕ). ListingWritten l rooms.seconds shown.seconds) k.1.seconds.are w.seconds;
      boths = subst (λ (l : List ℕ). ListingWritten l rooms.boths shown.boths) k.1.boths.are w.boths;
      refusal = w.refusal;
      place = w.place;
    }))
listings-written t u {rooms = rooms} {shown} k (inr w) = subst (λ (n : ℕ). ListingsWritten n t u rooms shown) (sym k.0) (inr w)

pub number-written :
    (t u y z : List ℕ) (p : ℕ) {q r end : ℕ} {out later : List ℕ} → (q ≡ r) × (r ≡ 0 → ⊥) × (p ≡ compare_place t u) → Put 0 (number_line r) out later end → end ≤ length out →
    ListingsWritten q t u (lists later y z) (record { done = true; firsts = end; seconds = 0; boths = 0; refusal = r; place = p })
number-written t u y z p {r = zero} k w h = absurd (k.1 refl)
number-written t u y z p {r = suc r} {end = end} {later = later} k w h =
    subst (λ (n : ℕ). ListingsWritten n t u (lists later y z) (record { done = true; firsts = end; seconds = 0; boths = 0; refusal = suc r; place = p })) (sym k.0)
    (put-taken w h, refl, k.2)

-- the bytes of a file, or none, have their room
pub bytes_fit : (bytes : List ℕ) (r : Option ℕ) → Fits bytes r → bytes_of r ≤ length bytes
bytes_fit bytes (Some n) h = h
bytes_fit bytes None h = omega arith

-- The lines of a history, one behind the other. Assumes nothing.
use mathlib.Core.Path.{◌≡◌, refl, sym, ap, ◌∙◌, subst}
use mathlib.Core.List.{List, [], ◌++◌, append-nil, append_assoc}
use Prim.Native.Nat.{ℕ, zero, suc, ◌+◌, ◌-◌, ◌*◌, ◌≤◌, ◌<◌}
use native.Mathlib.Omega.{arith}
use lib.ListN.{length}
use Rattle.history.specs.declared.History.{History}
use Rattle.report.specs.Put.{Put}
use Rattle.report.specs.History.{revision_line, last_lines, kept_number, history_lines}
use Rattle.report.proofs.Laws.Put.{put-none, then-put}

-- what is put so far, and the last revisions, are all lines
pub record Listing (h : History) (out later : List ℕ) (left end : ℕ) : Type 0 where
  pub few : left ≤ 32
  pub made : left ≤ h.newest + 1
  pub text : List ℕ
  pub rest : text ++ last_lines left h ≡ history_lines h
  pub put : Put 0 text out later end
  pub room : end + 105 * left ≤ 3360
  pub long : length later ≡ length out
  pub enough : 3360 ≤ length out

pub listing_none : (h : History) (out : List ℕ) (left : ℕ) → left ≡ kept_number h.newest → left ≤ 32 → left ≤ h.newest + 1 → 3360 ≤ length out → Listing h out out left 0
unfolding history_lines
listing_none h out left e a b r =
    record { few = a; made = b; text = []; rest = ap (λ (k : ℕ). last_lines k h) e; put = put-none; room = omega arith; long = refl; enough = r }

pub listing-more : (h : History) (out mid later : List ℕ) (left end stop : ℕ) (l : Listing h out mid left end) → 0 < left →
    Put end (revision_line h (h.newest - (left - 1))) mid later stop → stop ≤ end + 105 → length later ≡ length mid → Listing h out later (left - 1) stop
unfolding last_lines
listing-more h out mid later zero end stop l some p s n = absurd (omega arith)
listing-more h out mid later (suc k) end stop l some p s n =
    let e : suc k - 1 ≡ k = omega arith in
    let o : end ≤ length out = let r = l.room in let q = l.enough in omega arith in
    rw e
    (record {
      few = let r = l.few in omega arith;
      made = let r = l.made in omega arith;
      text = l.text ++ revision_line h (h.newest - k);
      rest = append_assoc l.text (revision_line h (h.newest - k)) (last_lines k h) ∙ l.rest;
      put = then-put l.put o (subst (λ (j : ℕ). Put end (revision_line h (h.newest - j)) mid later stop) e p);
      room = let r = l.room in omega arith;
      long = n ∙ l.long;
      enough = l.enough;
    })

pub listing-end : {h : History} {out later : List ℕ} {left end : ℕ} (l : Listing h out later left end) → left ≡ 0 → Put 0 (history_lines h) out later end
unfolding last_lines
listing-end {h} {out} {later} {left} {end} l e =
    subst (λ (t : List ℕ). Put 0 t out later end) (sym (append-nil l.text) ∙ ap (λ (k : ℕ). l.text ++ last_lines k h) (sym e) ∙ l.rest) l.put

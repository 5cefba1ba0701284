-- Names printed part by part. Assumes nothing.
use Rattle.std.specs.Prelude.{None}
use mathlib.Core.Path.{◌≡◌, refl, sym, ap, ◌∙◌}
use mathlib.Core.Logic.{◌⊎◌, inl, inr, ⊎_elim}
use borrow.Author.Tests.{ltb-true}
use Rattle.logic.specs.Laws.Order.{lt-or}
use Rattle.console.specs.Room.{Made}
use Rattle.console.specs.Names.{NamesWritten}
use mathlib.Core.List.{List}
use Prim.Native.Nat.{ℕ, ◌+◌, ◌-◌, ◌*◌, ◌≤◌, ◌<◌}
use native.Mathlib.Omega.{arith}
use lib.ListN.{length, take, drop, length-drop}
use lib.Seq.{take_all, length-take-le}
use Rattle.report.specs.declared.Names.{Names}
use Rattle.report.specs.Names.{names_of, NamesPut}
use Rattle.report.proofs.Laws.Names.{names-some, names-all}
use Rattle.report.proofs.Laws.Put.{put-taken}

module _ (codes out later : List ℕ) (from end : ℕ) (r : Names) (h : from < length codes) (q : NamesPut (take (length codes - from) (drop from codes)) out later r) where
  part : take (length codes - from) (drop from codes) ≡ drop from codes
  part = take_all (length codes - from) (drop from codes) (omega (arith, length-drop from codes))

  pub part-within : from + r.count ≤ length codes
  part-within = omega (arith, q.count, ap length part, length-drop from codes)

  pub part-some : 17 ≤ length out → 0 < r.count
  part-some k = names-some (take (length codes - from) (drop from codes)) out later r q (omega (arith, ap length part, length-drop from codes)) k

  -- what stands in front then
  pub part-written : take r.end later ≡ names_of (take r.count (drop from codes))
  part-written = put-taken q.put q.within ∙ ap (λ (l : List ℕ). names_of (take r.count l)) part

  -- all that is left of them where the room has 17 bytes for each
  pub part-all : 17 * length codes ≤ length out → from + r.count ≡ length codes
  part-all k =
      let l : length (take (length codes - from) (drop from codes)) ≡ length codes - from = ap length part ∙ length-drop from codes in
      let a = names-all (take (length codes - from) (drop from codes)) out later r q (omega arith) in
      omega (arith, a)

-- what waits are the names of the codes from `first` on, up to `from`
pub record Waits (codes out : List ℕ) (from end : ℕ) : Type 0 where
  pub first : ℕ
  pub names : take end out ≡ names_of (take (from - first) (drop first codes))
  pub some : 0 < from → first < from
  pub all : 17 * length codes ≤ length out → (first ≡ 0) × ((from ≡ 0) ⊎ (from ≡ length codes))

pub waits-none : (codes out : List ℕ) → Waits codes out 0 0
waits-none codes out = record { first = 0; names = refl; some = λ z. omega arith; all = λ z. (refl, inl refl) }

-- where something waited that was printed, the names do not have room
pub unprinted : (codes out : List ℕ) (from end : ℕ) → from < length codes → end ≤ length out → 17 ≤ length out → Waits codes out from end → Made (length out) end (length out) None →
    length out < 17 * length codes
unprinted codes out from end h k l w m = ⊎_elim (λ x. x) (λ x. absurd (none x)) (lt-or (length out) (17 * length codes))
  where
    none : 17 * length codes ≤ length out → ⊥
    none x =
        let e : from ≡ 0 = ⊎_elim (λ y. y) (λ y. absurd (omega arith)) (w.all x).1 in
        let f : from - w.first ≡ 0 = omega arith in
        let g : length (names_of (take (from - w.first) (drop w.first codes))) ≡ 0 = ap (λ (i : ℕ). length (names_of (take i (drop w.first codes)))) f in
        let n : end ≡ 0 = sym (length-take-le end out k) ∙ ap length w.names ∙ g in
        let z : length out - end < length out = ltb-true _ _ m in
        omega arith

pub waits-next :
    (codes out later : List ℕ) (from end : ℕ) (r : Names) (h : from < length codes) (q : NamesPut (take (length codes - from) (drop from codes)) out later r) → 17 ≤ length out →
    length later ≡ length out → Waits codes out from end → Waits codes later (from + r.count) r.end
waits-next codes out later from end r h q k same w =
    let n : r.count ≡ from + r.count - from = omega arith in
    record {
      first = from;
      names = part-written codes out later from end r h q ∙ ap (λ (i : ℕ). names_of (take i (drop from codes))) n;
      some = λ z. omega (arith, part-some codes out later from end r h q k);
      all = λ z. (⊎_elim (λ e. e) (λ e. omega arith) (w.all (omega arith)).1, inr (part-all codes out later from end r h q (omega arith)));
    }

pub waits-ended : (codes out : List ℕ) (from end : ℕ) → from ≡ length codes → end ≤ length out → Waits codes out from end → NamesWritten codes out end
waits-ended codes out from end e h w =
    record {
      from = w.first;
      names = w.names ∙ ap names_of (take_all (from - w.first) (drop w.first codes) (omega (arith, length-drop w.first codes)));
      some = λ z. omega (arith, w.some (omega arith));
      all = λ z. (w.all z).0;
      fits = h;
    }

-- The laws of Steps as the proof of the two readers cites them: what a goal or a hypothesis shows is implicit. Assumes nothing.
use Rattle.std.specs.Prelude.{None, Option, Some}
use Rattle.reader.specs.declared.NodesRead.{NodesRead}
use mathlib.Core.Path.{◌≡◌, refl, sym, ap, ap₂, subst, ◌∙◌}
use mathlib.Core.Logic.{⊎_elim}
use mathlib.Core.List.{List}
use Prim.Native.Nat.{ℕ, suc, ◌+◌, ◌-◌, ◌*◌, ◌/◌, ◌≤◌, ◌<◌}
use native.Mathlib.Omega.{arith}
use native.Mathlib.Nat.{zero-mul, one-mul, add-mul, mul-le-mul_right}
use lib.ListN.{length, get_or, get_or-eq_default}
use Rattle.logic.specs.Laws.Order.{lt-or}
use Rattle.reading.specs.declared.Level.{Level}
use Rattle.reading.specs.declared.Level.TheVariants.{Faces, Belt, Digits}
use Rattle.reading.specs.Reading.{first, many, room}
use Rattle.reading.proofs.Laws.Reading.{many-most}
use Rattle.reader.specs.Internal.NodesRead.{ReadsNode, ReadsNodes}
use Rattle.reader.proofs.Steps as st
use Rattle.reader.proofs.Steps.{plus}

-- ---- the node reader

-- no `(` follows the letter or digit
pub node-whole : {s : List ℕ} {at d z : ℕ} → at ≤ length s → (get_or s at 0 ≡ 40 → ⊥) → ReadsNode s at d z (Some (record { next = at; cells = 1; sum = z; wholes = 1 }))
node-whole {s} {at} {d} {z} a e =
    ⊎_elim (λ h. record { is = λ n k. st.node-bare s at d z h e n }) (λ h. record { is = λ n k. st.node_end s at d z (omega arith) n }) (lt-or at (length s))

pub node-none : {s : List ℕ} {at d z : ℕ} → at < length s → get_or s at 0 ≡ 40 → d ≡ 0 → ReadsNode s at d z None
node-none {s} {at} {d} {z} a e f = record { is = λ n h. st.node-none s at d z a e f n }

-- the reader stands at a `(` below which digits may lie
pub record Opens (s : List ℕ) (at d : ℕ) : Type 0 where
  pub inside : at < length s
  pub bracket : get_or s at 0 ≡ 40
  pub deep : d ≡ 0 → ⊥

pub node-bad : {s : List ℕ} {at d z : ℕ} {r : Option NodesRead} → Opens s at d → ReadsNodes s (at + 1) 0 Digits (d - 1) (z / 9) r → r ≡ None → ReadsNode s at d z None
node-bad {s} {at} {d} {z} {r} o h b = record { is = st.node-bad s at d z r o.inside o.bracket o.deep h.is b }

pub node-empty :
    {s : List ℕ} {at d z next m sum w : ℕ} {r : Option NodesRead} → Opens s at d → ReadsNodes s (at + 1) 0 Digits (d - 1) (z / 9) r → r ≡ Some (record { next = next; cells = m; sum = sum; wholes = w }) → next ≡ at + 1 →
    ReadsNode s at d z None
node-empty {s} {at} {d} {z} {next} {m} {sum} {w} {r} o h b q = record { is = st.node-empty s at d z r o.inside o.bracket o.deep h.is next m sum w b q }

pub node-short :
    {s : List ℕ} {at d z next m sum w : ℕ} {r : Option NodesRead} → Opens s at d → ReadsNodes s (at + 1) 0 Digits (d - 1) (z / 9) r → r ≡ Some (record { next = next; cells = m; sum = sum; wholes = w }) → next ≡ length s →
    ReadsNode s at d z None
node-short {s} {at} {d} {z} {next} {m} {sum} {w} {r} o h b q = record { is = st.node-short s at d z r o.inside o.bracket o.deep h.is next m sum w b q }

pub node-nine :
    {s : List ℕ} {at d z next m sum w : ℕ} {r : Option NodesRead} → Opens s at d → ReadsNodes s (at + 1) 0 Digits (d - 1) (z / 9) r → r ≡ Some (record { next = next; cells = m; sum = sum; wholes = w }) →
    (next ≡ at + 1 → ⊥) → w ≡ 9 →
    ReadsNode s at d z None
node-nine {s} {at} {d} {z} {next} {m} {sum} {w} {r} o h b q q' = record { is = st.node-nine s at d z r o.inside o.bracket o.deep h.is next m sum w b q q' }

pub node-read : {s : List ℕ} {at d z next m sum w : ℕ} {r : Option NodesRead} → Opens s at d → ReadsNodes s (at + 1) 0 Digits (d - 1) (z / 9) r → r ≡ Some (record { next = next; cells = m; sum = sum; wholes = w })
    → (next ≡ at + 1 → ⊥) → (next ≡ length s → ⊥) → (w ≡ 9 → ⊥) → ReadsNode s at d z (Some (record { next = next + 1; cells = m; sum = sum; wholes = 0 }))
node-read {s} {at} {d} {z} {next} {m} {sum} {w} {r} o h b q q' q'' = record { is = st.node-read s at d z r o.inside o.bracket o.deep h.is next m sum w b q q' q'' }

-- ---- the list reader

nodes-end : {s : List ℕ} {at lo d z : ℕ} {l : Level} → at ≡ length s → ReadsNodes s at lo l d z (Some (record { next = at; cells = 0; sum = 0; wholes = 0 }))
nodes-end {s} {at} {lo} {d} {z} {l} e = record { is = st.nodes-end s at lo l d z e }

nodes-close : {s : List ℕ} {at lo d z : ℕ} {l : Level} → at < length s → get_or s at 0 ≡ 41 → ReadsNodes s at lo l d z (Some (record { next = at; cells = 0; sum = 0; wholes = 0 }))
nodes-close {s} {at} {lo} {d} {z} {l} a e = record { is = st.nodes-close s at lo l d z a e }

-- the reader stands at the letter or digit of number c, and digits may lie `under` deep below it
record Names (s : List ℕ) (at lo : ℕ) (l : Level) (d c under : ℕ) : Type 0 where
  inside : at < length s
  other : get_or s at 0 ≡ 41 → ⊥
  low : first l + lo ≤ get_or s at 0
  high : get_or s at 0 < first l + many l
  number : c ≡ get_or s at 0 - first l
  below : under ≡ room l c d

nodes-wrong : {s : List ℕ} {at lo d z c under : ℕ} {l : Level} {r : Option NodesRead} → Names s at lo l d c under → ReadsNode s (at + 1) under z r → r ≡ None → ReadsNodes s at lo l d z None
nodes-wrong {s} {at} {lo} {d} {z} {c} {under} {l} {r} o h b = record { is = st.nodes-wrong s at lo l d z c under r o.inside o.other o.low o.high o.number o.below h.is b }

nodes-more : {s : List ℕ} {at lo d z c under next m sum w : ℕ} {l : Level} {r : Option NodesRead} → Names s at lo l d c under → ReadsNode s (at + 1) under z r → r ≡ Some (record { next = next; cells = m; sum = sum; wholes = w })
    → {r₂ : Option NodesRead} → ReadsNodes s next (c + 1) l d z r₂ → ReadsNodes s at lo l d z (plus m sum w r₂)
nodes-more {s} {at} {lo} {d} {z} {c} {under} {next} {m} {sum} {w} {l} {r} o h b {r₂} h₂ =
    record { is = st.nodes-more s at lo l d z c under r o.inside o.other o.low o.high o.number o.below h.is next m sum w b r₂ h₂.is }

-- ---- bounds

pub record From (s : List ℕ) (at z next n sum : ℕ) : Type 0 where
  pub from : at ≤ next
  pub to : next ≤ length s
  pub few : n + at ≤ next + 1
  pub small : sum ≤ z

pub node-known : {s : List ℕ} {at d z next n sum w : ℕ} {r : Option NodesRead} → ReadsNode s at d z r → r ≡ Some (record { next = next; cells = n; sum = sum; wholes = w }) → at ≤ length s → From s at z next n sum
node-known {s} {at} {d} {z} {next} {n} {sum} {w} {r} f e h =
    let o = st.node-known s at d z next n sum w r h f.is e (suc (length s)) (omega arith) in
    record { from = o.from; to = o.to; few = o.few; small = o.small }

pub nodes-known : {s : List ℕ} {at lo d z next n sum w : ℕ} {l : Level} {r : Option NodesRead} → ReadsNodes s at lo l d z r → r ≡ Some (record { next = next; cells = n; sum = sum; wholes = w }) → next ≤ length s
nodes-known {s} {at} {lo} {d} {z} {next} {n} {sum} {w} {l} {r} f e = st.nodes-known s at lo l d z next n sum w r f.is e

pub first-most : (l : Level) → first l ≤ 78
first-most Faces = omega arith
first-most Belt = omega arith
first-most Digits = omega arith

-- a `(` stands before the end
pub inside : (s : List ℕ) (at : ℕ) → get_or s at 0 ≡ 40 → at < length s
inside s at e = ⊎_elim (λ h. h) (λ h. absurd (omega (arith, get_or-eq_default s 0 h))) (lt-or at (length s))

-- ---- the list reader's loop

plus_none : (r : Option NodesRead) → r ≡ plus 0 0 0 r
plus_none None = refl
plus_none (Some x) =
    let e₁ : x.cells ≡ 0 + x.cells = omega arith in
    let e₂ : x.sum ≡ 0 + x.sum = omega arith in
    let e₃ : x.wholes ≡ 0 + x.wholes = omega arith in
    ap Some (λ i. record { next = x.next; cells = e₁ i; sum = e₂ i; wholes = e₃ i })

plus-plus : (n sum w n₂ sum₂ w₂ : ℕ) (r : Option NodesRead) → plus n sum w (plus n₂ sum₂ w₂ r) ≡ plus (n + n₂) (sum + sum₂) (w + w₂) r
plus-plus n sum w n₂ sum₂ w₂ None = refl
plus-plus n sum w n₂ sum₂ w₂ (Some x) =
    let e₁ : n + (n₂ + x.cells) ≡ n + n₂ + x.cells = omega arith in
    let e₂ : sum + (sum₂ + x.sum) ≡ sum + sum₂ + x.sum = omega arith in
    let e₃ : w + (w₂ + x.wholes) ≡ w + w₂ + x.wholes = omega arith in
    ap Some (λ i. record { next = x.next; cells = e₁ i; sum = e₂ i; wholes = e₃ i })

-- Before the byte at `at`: the nodes from `start` on hold w whole ones and lists with n cells of that sum; the next byte is `low` at least. What the
-- definition finds of the rest, with these, is what it finds of all.
pub record Runs (s : List ℕ) (start : ℕ) (l : Level) (d z at low n sum w : ℕ) : Type 0 where
  pub tied : (r : Option NodesRead) → ReadsNodes s at (low - first l) l d z r → ReadsNodes s start 0 l d z (plus (n + w) (sum + w * z) w r)
  pub from : start ≤ at
  pub to : at ≤ length s
  pub least : first l ≤ low
  pub most : low ≤ first l + many l
  pub few : n + w + start ≤ at
  pub small : sum + w * z + first l * z ≤ low * z
  pub nine : w + first l ≤ low

pub runs-start : {s : List ℕ} {start d z low : ℕ} {l : Level} → start ≤ length s → low ≡ first l → Runs s start l d z start low 0 0 0
runs-start {s} {start} {d} {z} {low} {l} h e =
    let m : 0 * z ≡ 0 = zero-mul z in
    let f : low * z ≡ first l * z = ap (λ (x : ℕ). x * z) e in
    record {
      tied = λ r o. subst (ReadsNodes s start 0 l d z) (plus_none r ∙ ap₂ (λ (x y : ℕ). plus x y 0 r) (omega arith) (omega arith))
          (subst (λ (x : ℕ). ReadsNodes s start x l d z r) (omega arith) o);
      from = omega arith;
      to = h;
      least = omega arith;
      most = omega arith;
      few = omega arith;
      small = omega arith;
      nine = omega arith;
    }

module _ {s : List ℕ} {start d z at low n sum w : ℕ} {l : Level} (v : Runs s start l d z at low n sum w) where
  -- the nodes end
  stop : ReadsNodes s at (low - first l) l d z (Some (record { next = at; cells = 0; sum = 0; wholes = 0 })) → ReadsNodes s start 0 l d z (Some (record { next = at; cells = n + w; sum = sum + w * z; wholes = w }))
  stop o =
      let e₁ : n + w + 0 ≡ n + w = omega arith in
      let e₂ : sum + w * z + 0 ≡ sum + w * z = omega arith in
      let e₃ : w + 0 ≡ w = omega arith in
      let e : Some (record { next = at; cells = n + w + 0; sum = sum + w * z + 0; wholes = w + 0 }) ≡ Some (record { next = at; cells = n + w; sum = sum + w * z; wholes = w }) = cc in
      subst (ReadsNodes s start 0 l d z) e (v.tied (Some (record { next = at; cells = 0; sum = 0; wholes = 0 })) o)

  pub runs-end : length s ≤ at → ReadsNodes s start 0 l d z (Some (record { next = at; cells = n + w; sum = sum + w * z; wholes = w }))
  runs-end h = stop (nodes-end (omega (arith, v.to)))

  pub runs_close : at < length s → get_or s at 0 ≡ 41 → ReadsNodes s start 0 l d z (Some (record { next = at; cells = n + w; sum = sum + w * z; wholes = w }))
  runs_close h e = stop (nodes-close h e)

  -- the sum fits
  pub runs-fits : sum + w * z ≤ 9 * z
  runs-fits =
      let e : (first l + many l) * z ≡ first l * z + many l * z = add-mul (first l) (many l) z in
      omega (arith, v.small, mul-le-mul_right z v.most, mul-le-mul_right z (many-most l))

  module _ (a : at < length s) (q : get_or s at 0 ≡ 41 → ⊥) where
    pub runs-low : get_or s at 0 < low → ReadsNodes s start 0 l d z None
    runs-low h = v.tied None (record { is = st.nodes-low s at (low - first l) l d z a q (omega (arith, v.least)) })

    module _ (h : low ≤ get_or s at 0) where
      pub runs-high : first l + many l ≤ get_or s at 0 → ReadsNodes s start 0 l d z None
      runs-high k = v.tied None (record { is = st.nodes-high s at (low - first l) l d z a q (omega (arith, v.least)) k })

      module _ (k : get_or s at 0 < first l + many l) where
        names : {under : ℕ} → under ≡ room l (get_or s at 0 - first l) d → Names s at (low - first l) l d (get_or s at 0 - first l) under
        names u = record { inside = a; other = q; low = omega (arith, v.least); high = k; number = refl; below = u }

        -- a node, and what the numbers are after it
        on : {under next m more wi n' sum' w' : ℕ} {r : Option NodesRead} → under ≡ room l (get_or s at 0 - first l) d → ReadsNode s (at + 1) under z r → r ≡ Some (record { next = next; cells = m; sum = more; wholes = wi })
            → n' + w' ≡ n + w + m → sum' + w' * z ≡ sum + w * z + more → w' ≡ w + wi → wi ≤ 1 → Runs s start l d z next (get_or s at 0 + 1) n' sum' w'
        on {under} {next} {m} {more} {wi} {n'} {sum'} {w'} {r} u o b e₁ e₂ e₃ one =
            let f = node-known o b (omega arith) in
            record {
              tied = λ r₂ h₂.
                  subst (ReadsNodes s start 0 l d z)
                  (plus-plus (n + w) (sum + w * z) w m more wi r₂ ∙ sym (ap (λ (x : ℕ). plus x (sum + w * z + more) (w + wi) r₂) e₁) ∙ sym
                  (ap₂ (λ (x y : ℕ). plus (n' + w') x y r₂) e₂ e₃))
                  (v.tied (plus m more wi r₂)
                  (nodes-more (names u) o b (subst (λ (x : ℕ). ReadsNodes s next x l d z r₂) (omega (arith, v.least)) h₂)));
              from = omega (arith, v.from, f.from);
              to = f.to;
              least = omega (arith, v.least);
              most = omega arith;
              few = omega (arith, v.few, f.few);
              small = omega (arith, v.small, f.small, mul-le-mul_right z h, add-mul (get_or s at 0) 1 z, one-mul z);
              nine = omega (arith, v.nine);
            }

        pub runs-whole : (get_or s (at + 1) 0 ≡ 40 → ⊥) → Runs s start l d z (at + 1) (get_or s at 0 + 1) n sum (w + 1)
        runs-whole e =
            on refl (node-whole (omega arith) e) refl (omega arith) (omega (arith, add-mul w 1 z, one-mul z)) refl (omega arith)

        module _ {under : ℕ} {r : Option NodesRead} (u : under ≡ room l (get_or s at 0 - first l) d) (o : ReadsNode s (at + 1) under z r) where
          pub runs-wrong : r ≡ None → ReadsNodes s start 0 l d z None
          runs-wrong b = v.tied None (nodes-wrong (names u) o b)

          pub runs-listed : {next m more wi : ℕ} → get_or s (at + 1) 0 ≡ 40 → r ≡ Some (record { next = next; cells = m; sum = more; wholes = wi }) → Runs s start l d z next (get_or s at 0 + 1) (n + m) (sum + more) w
          runs-listed {next} {m} {more} {wi} e b =
              let none : wi ≡ 0 = st.node-list s (at + 1) under z next m more wi r (inside s (at + 1) e) e o.is b in
              on u o b (omega arith) (omega arith) (omega arith) (omega arith)

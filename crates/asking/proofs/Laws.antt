pub mod Ask
pub mod Settle
-- The answer and the count along the nodes of a text: the nodes from here on decide. Assumes nothing.
use mathlib.Core.Path.{◌≡◌, refl, sym, ap, ap₂, ◌∙◌}
use mathlib.Core.Logic.{◌⊎◌, inl, inr, ⊎_elim}
use mathlib.Core.Bool.{Bool, true, false, ◌&&◌, ◌||◌, not, cond}
use mathlib.Core.List.{List, [], ◌∷◌, ◌++◌, append-nil, append_assoc}
use Prim.Native.Nat.{ℕ, suc, ◌+◌, ◌-◌, ◌*◌, ◌/◌, ◌^◌, ◌≤◌, ◌<◌}
use native.Mathlib.Omega.{arith}
use native.Mathlib.Nat.{pow-suc, add-mul, suc-mul, mul_assoc, mul_comm, mul-le-mul_right, lt_of_mul-lt-mul_right}
use lib.ListN.{length, drop, get_or, drop_of_length-le}
use lib.Seq.{drop-drop, drop-append-add, drop-length}
use lib.Dec.{leb, eqb}
use borrow.Author.Tests.{le-leb, lt-leb}
use Rattle.logic.specs.Laws.Bools.{clash, and_none}
use Rattle.logic.specs.Laws.Order.{lt-or}
use Rattle.ternary.proofs.Laws.Powers.{nine-pos, nine-add, nine-le}
use Rattle.code.specs.Code.{cell_of, arrangement_of, is_code, size_of}
use Rattle.code.proofs.Laws.Code.{code-is-cell}
use Rattle.code.specs.Inside.{start_of, end_of}
use Rattle.code.specs.Number.{number_of, start_as}
use Rattle.code.proofs.Laws.Number.{start-as}
use Rattle.reading.specs.declared.Level.{Level}
use Rattle.reading.specs.declared.Level.TheVariants.{Faces, Digits}
use Rattle.reading.specs.Reading.{Nodes, end, whole, listed, first, many, room, render, Good}
use Rattle.reading.proofs.Laws.Reading.{many-most, room-le}
use Rattle.reading.specs.Letters.{letter_count}
use Rattle.reading.proofs.Laws.Parse.{Stop}
use Rattle.reading.specs.TextReading.{is_text, nodes_of, body_start, text_arrangement}
use Rattle.reading.proofs.Laws.TextReading.{good-nodes, body-nodes}
use Rattle.walk.specs.Walk.{opens, whole_at}
use Rattle.walk.specs.Past.{node_in}
use Rattle.walk.specs.Laws.Walk.{not-shut, whole-name, opens-nodes, byte_at}
use Rattle.walk.specs.Laws.Past.{node-whole, node-listed}
use Rattle.walk.specs.Laws.LetterWalk.{count-letter, count-open, count-shut}
use Rattle.asking.specs.Internal.AskNodes.{any_in, nodes-asked, in-short, in-behind, in-finer}
use Rattle.asking.specs.Internal.CodeOrder.{no_later}
use Rattle.asking.proofs.Internal.CountNodes.{in_all, up_to, up-most, count-nodes, text-count, text-all, text-up, no-later-before, no-later-around, up-behind, up-finer, up-all}
use Rattle.asking.specs.Internal.Reach.{Reaches}

-- the byte at a place, where the bytes from there on are known
module _ (t : List ℕ) (i : ℕ) {b : ℕ} {bs : List ℕ} (e : drop i t ≡ b ∷ bs) where
  pub inside : i < length t
  inside = ⊎_elim (λ h. h) (λ h. absurd (omega (arith, ap length (sym e ∙ drop_of_length-le t {i = i} h)))) (lt-or i (length t))

  there : get_or t i 0 ∷ drop (i + 1) t ≡ b ∷ bs
  there = sym (byte_at t i inside) ∙ e

  byte : get_or t i 0 ≡ b
  byte = let f = there in cc

  after : drop (i + 1) t ≡ bs
  after = let f = there in cc

stop-opens : (rest : List ℕ) → Stop rest → opens rest ≡ false
stop-opens [] s = refl
stop-opens (b ∷ bs) s = rw s

or-none : (b : Bool) → (b || false) ≡ b
or-none true = refl
or-none false = refl

-- ---- the asked cell's finest cells, and the multiples of powers of nine

pub record Aims (from to : ℕ) : Type 0 where
  pub power : ℕ
  pub number : ℕ
  pub start : from ≡ number * 9 ^ power
  pub stop : to ≡ from + 9 ^ power

pub aims : (code : ℕ) → is_code code ≡ true → Aims (start_of (cell_of code)) (end_of (cell_of code))
unfolding start_as end_of size_of
aims code h =
    let x = cell_of code in
    record { power = 15 - x.resolution; number = number_of x; start = sym (start-as x (code-is-cell code h)); stop = refl }

-- one more multiple
multiple : (a b s : ℕ) → a * s < b * s → a * s + s ≤ b * s
multiple a b s h = let m : suc a * s ≤ b * s = mul-le-mul_right s (lt_of_mul-lt-mul_right s h) in omega (arith, suc-mul a s)

-- of two ranges, one that begins in the other lies in it, or begins with it and is longer
nested :
    (p q m n : ℕ) → n * 9 ^ p ≤ m * 9 ^ q → m * 9 ^ q < n * 9 ^ p + 9 ^ p →
    (m * 9 ^ q + 9 ^ q ≤ n * 9 ^ p + 9 ^ p) ⊎ (n * 9 ^ p ≡ m * 9 ^ q)
nested p q m n h k =
    ⊎_elim
    (λ l.
    let w : ℕ = 9 ^ (q - p) in
    let e : 9 ^ q ≡ w * 9 ^ p = ap (λ (x : ℕ). 9 ^ x) (omega arith) ∙ nine-add (q - p) p in
    let f : m * 9 ^ q ≡ m * w * 9 ^ p = ap (λ (x : ℕ). m * x) e ∙ sym (mul_assoc m w (9 ^ p)) in
    inr (⊎_elim (λ o. absurd (omega (arith, multiple n (m * w) (9 ^ p) (omega arith)))) (λ o. omega arith) (lt-or (n * 9 ^ p) (m * 9 ^ q))))
    (λ l.
    let w : ℕ = 9 ^ (p - q) in
    let e : 9 ^ p ≡ w * 9 ^ q = ap (λ (x : ℕ). 9 ^ x) (omega arith) ∙ nine-add (p - q) q in
    let f : suc n * 9 ^ p ≡ suc n * w * 9 ^ q = ap (λ (x : ℕ). suc n * x) e ∙ sym (mul_assoc (suc n) w (9 ^ q)) in
    let g = suc-mul n (9 ^ p) in
    inl (omega (arith, multiple m (suc n * w) (9 ^ q) (omega arith))))
    (lt-or p q)

-- ---- What holds before the byte at i: the nodes of a list, or the faces, stand from there on; their cells have this size, and the first one starts at
-- `before`. So many letters and digits of the text are above the asked code, and all of them stand from there on.

pub record Asks (t : List ℕ) (from to : ℕ) (r : Bool) (above base before size i : ℕ) : Type 0 where
  pub level : Level
  pub depth : ℕ
  pub lo : ℕ
  pub nodes : Nodes
  pub rest : List ℕ
  pub number : ℕ
  pub power : ℕ
  pub left : drop i t ≡ render level nodes ++ rest
  pub stop : Stop rest
  pub good : Good level depth lo nodes
  pub kind : base ≡ first level
  pub same : any_in from to before size nodes ≡ r
  pub fits : before + 9 * size ≤ 9 ^ 16
  pub fine : depth ≤ power
  pub start : before ≡ number * 9 * size
  pub sized : size ≡ 9 ^ power
  pub counts : letter_count (drop i t) ≡ above + up_to from to before size nodes
  pub behind : body_start t ≤ i

-- how many are above
abbrev pub above_in : (t : List ℕ) (from to : ℕ) → ℕ
above_in t from to = in_all (nodes_of t) - up_to from to 0 (9 ^ 15) (nodes_of t)

pub asks-start :
    (t : List ℕ) (from to : ℕ) {i : ℕ} → is_text t ≡ true → i ≡ body_start t →
    Asks t from to (any_in from to 0 (9 ^ 15) (nodes_of t)) (above_in t from to) 78 0 (9 ^ 15) i
asks-start t from to {i} e h =
    record {
      level = Faces;
      depth = 15;
      lo = 0;
      nodes = nodes_of t;
      rest = [];
      number = 0;
      power = 15;
      left = ap (λ (x : ℕ). drop x t) h ∙ body-nodes t e ∙ sym (append-nil (render Faces (nodes_of t)));
      stop = tt;
      good = good-nodes t e;
      kind = refl;
      same = refl;
      fits = omega arith;
      fine = omega arith;
      start = refl;
      sized = refl;
      counts = ap (λ (x : ℕ). letter_count (drop x t)) h ∙ omega (arith, text-count t e, up-most from to 0 (9 ^ 15) (nodes_of t));
      behind = omega arith;
    }

-- the answer, and how many stand from a place on
abbrev pub Found : (t : List ℕ) (above at : ℕ) (b r : Bool) → Type 0
Found t above at b r = (b ≡ r) × (letter_count (drop at t) ≡ above)

-- it is what asking reaches
pub reached :
    (t : List ℕ) → is_text t ≡ true → (code : ℕ) → is_code code ≡ true → arrangement_of code ≡ text_arrangement t → {b : Bool} {at : ℕ} →
    Found t (above_in t (start_of (cell_of code)) (end_of (cell_of code))) at b (any_in (start_of (cell_of code)) (end_of (cell_of code)) 0 (9 ^ 15) (nodes_of t)) →
    body_start t ≤ at → at ≤ length t → Reaches t code b at
reached t e code c a h l k =
    record {
      answer = h.0 ∙ nodes-asked t e (cell_of code);
      behind = l;
      within = k;
      above = omega (arith, h.1, text-up t e code c a, text-all t e, up-most (start_of (cell_of code)) (end_of (cell_of code)) 0 (9 ^ 15) (nodes_of t));
    }

-- no nodes are left
module _ {t : List ℕ} {from to : ℕ} {r : Bool} {above base before size i : ℕ} (v : Asks t from to r above base before size i) where
  pub asks-end : length t ≤ i → Found t above (length t) false r
  unfolding any_in letter_count up_to
  asks-end h = go v.nodes v.left v.same v.counts
    where
      none : {A : Type 0} {b : ℕ} {bs : List ℕ} → drop i t ≡ b ∷ bs → A
      none e = absurd (omega (arith, inside t i e))

      go :
          (ns : Nodes) → drop i t ≡ render v.level ns ++ v.rest → any_in from to before size ns ≡ r →
          letter_count (drop i t) ≡ above + up_to from to before size ns → Found t above (length t) false r
      go end e s n = (s, omega (arith, ap letter_count (drop_of_length-le t {i = i} h), ap letter_count (drop-length t)))
      go (whole c ns) e s n = none e
      go (listed c is ns) e s n = none e

  pub asks-shut : get_or t i 0 ≡ 41 → Found t above i false r
  unfolding any_in up_to
  asks-shut h = go v.nodes v.left v.same v.counts
    where
      other : {A : Type 0} (l : Level) (c : ℕ) → first l + c ≡ 41 → A
      other l c e = clash (sym (ap (λ (x : ℕ). eqb x 41) e) ∙ not-shut c l)

      go :
          (ns : Nodes) → drop i t ≡ render v.level ns ++ v.rest → any_in from to before size ns ≡ r →
          letter_count (drop i t) ≡ above + up_to from to before size ns → Found t above i false r
      go end e s n = (s, omega arith)
      go (whole c ns) e s n = other v.level c (sym (byte t i e) ∙ h)
      go (listed c is ns) e s n = other v.level c (sym (byte t i e) ∙ h)

-- a letter or digit of number c stands here
pub record Named (t : List ℕ) (base i c : ℕ) (l : Level) : Type 0 where
  pub number : get_or t i 0 - base ≡ c
  pub least : base ≤ get_or t i 0
  pub few : c < many l

module _ {t : List ℕ} {from to : ℕ} {r : Bool} {above base before size i : ℕ} (v : Asks t from to r above base before size i) (h : i < length t) (q : get_or t i 0 ≡ 41 → ⊥) where
  none : (rest : List ℕ) → Stop rest → drop i t ≡ rest → ⊥
  none [] s e = omega (arith, ap length (sym (byte_at t i h) ∙ e))
  none (b ∷ bs) s e = q (byte t i e ∙ s)

  named : {c : ℕ} {bs : List ℕ} → c < many v.level → drop i t ≡ (first v.level + c) ∷ bs → Named t base i c v.level
  named k e = record { number = omega (arith, byte t i e, v.kind); least = omega (arith, byte t i e, v.kind); few = k }

  pub asks-named : (c : ℕ) × Named t base i c v.level
  asks-named = go v.nodes v.left v.good
    where
      go : (ns : Nodes) → drop i t ≡ render v.level ns ++ v.rest → Good v.level v.depth v.lo ns → (c : ℕ) × Named t base i c v.level
      go end e g = absurd (none v.rest v.stop e)
      go (whole c ns) e g = (c, named g.1 e)
      go (listed c is ns) e g = (c, named g.1 e)

  -- where the cell starts
  abbrev starts : ℕ
  starts = before + (get_or t i 0 - base) * size

  start_is : (c : ℕ) {bs : List ℕ} → drop i t ≡ (first v.level + c) ∷ bs → starts ≡ before + c * size
  start_is c e = ap (λ (x : ℕ). before + x * size) (omega (arith, byte t i e, v.kind))

  -- the cell's finest cells have numbers of 64 bits
  pub asks-fits : starts + size ≤ 9 ^ 16
  asks-fits =
      let n = asks-named in
      let e : starts ≡ before + n.0 * size = ap (λ (x : ℕ). before + x * size) n.1.number in
      omega (arith, v.fits, mul-le-mul_right size n.1.few, suc-mul n.0 size, mul-le-mul_right size (many-most v.level))

  -- it is a multiple of the size
  start-of : (c : ℕ) {bs : List ℕ} → drop i t ≡ (first v.level + c) ∷ bs → starts ≡ (v.number * 9 + c) * 9 ^ v.power
  start-of c e =
      start_is c e ∙ ap (λ (x : ℕ). x + c * size) v.start ∙ sym (add-mul (v.number * 9) c size) ∙ ap (λ (x : ℕ). (v.number * 9 + c) * x) v.sized

  size-some : 0 < size
  size-some = omega (arith, v.sized, nine-pos v.power)

  -- where it has a list, its size is that of nine cells
  ninth : (c : ℕ) → 0 < room v.level c v.depth → size ≡ 9 * 9 ^ (v.power - 1)
  ninth c g =
      let e : suc (v.power - 1) ≡ v.power = omega (arith, v.fine, room-le v.level c v.depth) in
      v.sized ∙ ap (λ (x : ℕ). 9 ^ x) (sym e) ∙ pow-suc 9 (v.power - 1) ∙ mul_comm (9 ^ (v.power - 1)) 9

  list-size : (c : ℕ) → 0 < room v.level c v.depth → 9 ^ (room v.level c v.depth - 1) ≤ size / 9
  list-size c g =
      let h = nine-le {i = room v.level c v.depth - 1} {j = v.power - 1} (omega (arith, v.fine, room-le v.level c v.depth)) in
      omega (arith, ninth c g)

  -- The nodes from here on, as what is claimed of them asks for.
  along :
      {A : Type 0} →
      ((ns : Nodes) (c : ℕ) (bs : List ℕ) → drop i t ≡ (first v.level + c) ∷ bs → Good v.level v.depth c ns → any_in from to before size ns ≡ r →
      letter_count (drop i t) ≡ above + up_to from to before size ns → A) → A
  along {A} f = go v.nodes v.left v.good v.same v.counts
    where
      go :
          (ns : Nodes) → drop i t ≡ render v.level ns ++ v.rest → Good v.level v.depth v.lo ns → any_in from to before size ns ≡ r →
          letter_count (drop i t) ≡ above + up_to from to before size ns → A
      go end e g s n = absurd (none v.rest v.stop e)
      go (whole c ns) e g s n = f (whole c ns) c _ e (omega arith, g.1, g.2) s n
      go (listed c is ns) e g s n = f (listed c is ns) c _ e (omega arith, g.1, g.2, g.3, g.4, g.5, g.6) s n

  -- it starts behind the asked one's start
  pub asks-behind : from < starts → Found t above i false r
  asks-behind k =
      along (λ ns c bs e g s n.
      let m : from < before + c * size = omega (arith, start_is c e) in
      (sym (in-behind from to ns v.level v.depth c before size g m) ∙ s, omega (arith, up-behind from to ns v.level v.depth c before size g m)))

  nodes-stop : (ns : Nodes) → opens (render v.level ns ++ v.rest) ≡ false
  nodes-stop ns = opens-nodes ns v.level v.rest (stop-opens v.rest v.stop)

  -- a whole node, and one that holds a list
  whole_here : (c : ℕ) (ns : Nodes) → drop i t ≡ (first v.level + c) ∷ (render v.level ns ++ v.rest) → whole_at (drop i t) ≡ true
  whole_here c ns e =
      ap whole_at e ∙ whole-name c v.level (render v.level ns ++ v.rest) ∙ ap not (nodes-stop ns)

  list-here : (c : ℕ) {bs : List ℕ} → drop i t ≡ (first v.level + c) ∷ 40 ∷ bs → whole_at (drop i t) ≡ false
  list-here c {bs} e = ap whole_at e ∙ whole-name c v.level (40 ∷ bs)

  listed_here : (c : ℕ) (is ns : Nodes) → drop i t ≡ render v.level (listed c is ns) ++ v.rest
      → drop i t ≡ (first v.level + c) ∷ 40 ∷ (render Digits is ++ (41 ∷ (render v.level ns ++ v.rest)))
  listed_here c is ns e =
      e ∙ ap (λ (x : List ℕ). (first v.level + c) ∷ 40 ∷ x) (append_assoc (render Digits is) (41 ∷ render v.level ns) v.rest)

  -- one letter or digit more
  one_more : (c : ℕ) {bs : List ℕ} → drop i t ≡ (first v.level + c) ∷ bs → letter_count (drop i t) ≡ 1 + letter_count bs
  one_more c {bs} e = ap letter_count e ∙ count-letter c v.level bs

  -- which is counted
  counted-here : (c : ℕ) {bs : List ℕ} → drop i t ≡ (first v.level + c) ∷ bs → no_later from to starts (starts + size) ≡ true →
      ◌≡◌ {A = ℕ} (cond (no_later from to (before + c * size) (before + c * size + size)) 1 0) 1
  counted-here c e k = ap (λ (x : ℕ). cond {A = ℕ} (no_later from to x (x + size)) 1 0) (sym (start_is c e)) ∙ ap (λ (b : Bool). cond {A = ℕ} b 1 0) k

  -- it ends before the asked one starts
  pub asks-past : from < to → starts + size ≤ from → Asks t from to r above base before size (i + node_in (drop i t))
  unfolding any_in up_to
  asks-past m k = go v.nodes v.left v.good v.same v.counts
    where
      sooner : no_later from to starts (starts + size) ≡ true
      sooner = no-later-before from to starts (starts + size) (omega (arith, size-some))

      go :
          (ns : Nodes) → drop i t ≡ render v.level ns ++ v.rest → Good v.level v.depth v.lo ns → any_in from to before size ns ≡ r →
          letter_count (drop i t) ≡ above + up_to from to before size ns → Asks t from to r above base before size (i + node_in (drop i t))
      go end e g s o = absurd (none v.rest v.stop e)
      go (whole c ns) e g s o =
          let n : node_in (drop i t) ≡ 1 = ap node_in e ∙ node-whole c v.level (render v.level ns ++ v.rest) (nodes-stop ns) in
          let f : (leb (before + c * size) from && leb to (before + c * size + size)) ≡ false =
          ap (λ (b : Bool). leb (before + c * size) from && b) (lt-leb to (before + c * size + size) (omega (arith, start_is c e))) ∙ and_none (leb (before + c * size) from) in
          let l : drop (i + node_in (drop i t)) t ≡ render v.level ns ++ v.rest = ap (λ (x : ℕ). drop (i + x) t) n ∙ after t i e in
          record {
            level = v.level;
            depth = v.depth;
            lo = suc c;
            nodes = ns;
            rest = v.rest;
            number = v.number;
            power = v.power;
            left = l;
            stop = v.stop;
            good = g.2;
            kind = v.kind;
            same = sym (ap (λ (b : Bool). b || any_in from to before size ns) f) ∙ s;
            fits = v.fits;
            fine = v.fine;
            start = v.start;
            sized = v.sized;
            counts = ap letter_count l ∙ omega (arith, one_more c e, counted-here c e sooner);
            behind = omega (arith, v.behind);
          }
      go (listed c is ns) e g s o =
          let tail : List ℕ = render v.level ns ++ v.rest in
          let x : drop i t ≡ (first v.level + c) ∷ 40 ∷ (render Digits is ++ (41 ∷ tail)) = listed_here c is ns e in
          let xs : List ℕ = (first v.level + c) ∷ 40 ∷ render Digits is in
          let n : node_in (drop i t) ≡ length xs + 1 = ap node_in x ∙ node-listed c v.level is tail ∙ omega arith in
          let f : any_in from to (before + c * size) (size / 9) is ≡ false =
          in-short from to is Digits (room v.level c v.depth - 1) 0 (before + c * size) (size / 9) g.5 (omega (arith, start_is c x)) in
          let l : drop (i + node_in (drop i t)) t ≡ tail =
          ap (λ (y : ℕ). drop (i + y) t) n ∙ sym (drop-drop (length xs + 1) i t) ∙ ap (drop (length xs + 1)) x ∙ drop-append-add xs (41 ∷ tail) 1 in
          let u : up_to from to (before + c * size) (size / 9) is ≡ in_all is =
          up-all from to is Digits (room v.level c v.depth - 1) 0 (before + c * size) (size / 9) g.5 (list-size c g.2) (omega (arith, start_is c x)) in
          record {
            level = v.level;
            depth = v.depth;
            lo = suc c;
            nodes = ns;
            rest = v.rest;
            number = v.number;
            power = v.power;
            left = l;
            stop = v.stop;
            good = g.6;
            kind = v.kind;
            same = sym (ap (λ (b : Bool). b || any_in from to before size ns) f) ∙ s;
            fits = v.fits;
            fine = v.fine;
            start = v.start;
            sized = v.sized;
            counts =
                ap letter_count l
                ∙ omega (
                  arith,
                  one_more c x,
                  count-open (render Digits is ++ (41 ∷ tail)),
                  count-nodes is Digits (41 ∷ tail),
                  count-shut tail,
                  counted-here c x sooner,
                );
            behind = omega (arith, v.behind);
          }

  -- it holds the start of the asked one, and is smaller: then it starts with it
  pub asks-finer : Aims from to → starts ≤ from → from < starts + size → starts + size < to → Found t above i false r
  asks-finer m a b k =
      along (λ ns c bs e g s n.
      let same : starts ≡ from =
      ⊎_elim (λ l. absurd (omega (arith, m.start, m.stop, v.sized, start-of c e))) (λ l. start-of c e ∙ l ∙ sym m.start)
      (nested v.power m.power m.number (v.number * 9 + c) (omega (arith, m.start, start-of c e)) (omega (arith, m.start, v.sized, start-of c e))) in
      let o : from ≤ before + c * size = omega (arith, start_is c e) in (
        sym (in-finer from to ns v.level v.depth c before size g o (omega arith)) ∙ s,
        omega (arith, up-finer from to ns v.level v.depth c before size g o (omega arith)),
      ))

  module _ (a : starts ≤ from) (b : to ≤ starts + size) (m : from < to) where
    around : no_later from to starts (starts + size) ≡ true
    around = no-later-around from to starts (starts + size) a b

    -- the nodes behind it are above
    none-behind : (c : ℕ) (ns : Nodes) {bs : List ℕ} → drop i t ≡ (first v.level + c) ∷ bs → Good v.level v.depth (suc c) ns → up_to from to before size ns ≡ 0
    none-behind c ns e g = up-behind from to ns v.level v.depth (suc c) before size g (omega (arith, start_is c e, suc-mul c size))

    -- it is whole, and holds the asked one
    pub asks-yes : whole_at (drop i t) ≡ true → Found t above (i + 1) true r
    unfolding any_in up_to
    asks-yes w = go v.nodes v.left v.good v.same v.counts
      where
        go :
            (ns : Nodes) → drop i t ≡ render v.level ns ++ v.rest → Good v.level v.depth v.lo ns → any_in from to before size ns ≡ r →
            letter_count (drop i t) ≡ above + up_to from to before size ns → Found t above (i + 1) true r
        go end e g s o = absurd (none v.rest v.stop e)
        go (whole c ns) e g s o =
            let f : (leb (before + c * size) from && leb to (before + c * size + size)) ≡ true =
            ap₂ ◌&&◌ (le-leb (before + c * size) from (omega (arith, start_is c e))) (le-leb to (before + c * size + size) (omega (arith, start_is c e))) in (
              sym (ap (λ (x : Bool). x || any_in from to before size ns) f) ∙ s,
              ap letter_count (after t i e) ∙ omega (arith, one_more c e, counted-here c e around, none-behind c ns e g.2),
            )
        go (listed c is ns) e g s o = clash (sym w ∙ list-here c (listed_here c is ns e))

    -- the asked one lies in its list, if anywhere
    pub asks-into : whole_at (drop i t) ≡ false → Asks t from to r above 48 starts (size / 9) (i + 2)
    unfolding any_in up_to
    asks-into w = go v.nodes v.left v.good v.same v.counts
      where
        go :
            (ns : Nodes) → drop i t ≡ render v.level ns ++ v.rest → Good v.level v.depth v.lo ns → any_in from to before size ns ≡ r →
            letter_count (drop i t) ≡ above + up_to from to before size ns → Asks t from to r above 48 starts (size / 9) (i + 2)
        go end e g s o = absurd (none v.rest v.stop e)
        go (whole c ns) e g s o = clash (sym (whole_here c ns e) ∙ w)
        go (listed c is ns) e g s o =
            let tail : List ℕ = render v.level ns ++ v.rest in
            let x : drop i t ≡ (first v.level + c) ∷ 40 ∷ (render Digits is ++ (41 ∷ tail)) = listed_here c is ns e in
            let f : any_in from to before size ns ≡ false =
            in-behind from to ns v.level v.depth (suc c) before size g.6 (omega (arith, start_is c x, suc-mul c size)) in
            let l : drop (i + 2) t ≡ render Digits is ++ (41 ∷ tail) = sym (drop-drop 2 i t) ∙ ap (drop 2) x in
            let y : size / 9 ≡ 9 ^ (v.power - 1) = omega (arith, ninth c g.2) in
            record {
              level = Digits;
              depth = room v.level c v.depth - 1;
              lo = 0;
              nodes = is;
              rest = 41 ∷ tail;
              number = v.number * 9 + c;
              power = v.power - 1;
              left = l;
              stop = refl;
              good = g.5;
              kind = refl;
              same =
                  ap (λ (u : ℕ). any_in from to u (size / 9) is) (start_is c x) ∙ sym (or-none (any_in from to (before + c * size) (size / 9) is))
                  ∙ sym (ap (λ (u : Bool). any_in from to (before + c * size) (size / 9) is || u) f) ∙ s;
              fits = omega (arith, asks-fits);
              fine = omega (arith, v.fine, room-le v.level c v.depth);
              start =
                  start-of c x ∙ ap (λ (u : ℕ). (v.number * 9 + c) * u) (sym v.sized ∙ ninth c g.2)
                  ∙ sym (mul_assoc (v.number * 9 + c) 9 (9 ^ (v.power - 1))) ∙ ap (λ (u : ℕ). (v.number * 9 + c) * 9 * u) (sym y);
              sized = y;
              counts =
                  ap letter_count l
                  ∙ omega (
                    arith,
                    ap (λ (u : ℕ). up_to from to u (size / 9) is) (start_is c x),
                    one_more c x,
                    count-open (render Digits is ++ (41 ∷ tail)),
                    counted-here c x around,
                    none-behind c ns x g.6,
                  );
              behind = omega (arith, v.behind);
            }

-- A line for each kind, as it is printed. Assumes nothing.
use Rattle.std.specs.Prelude.{◌≡◌, refl, [], ◌∷◌}
use Rattle.decimal.specs.Decimal.{printed}
use Rattle.report.specs.Changes.{kind_words, change_line}

-- "14 1: named already, or inside a whole cell"
pub already-line :
    change_line 14 1 ≡
    49 ∷ 52 ∷ 32 ∷ 49 ∷ 58 ∷ 32 ∷ 110 ∷ 97 ∷ 109 ∷ 101 ∷ 100 ∷ 32 ∷ 97 ∷ 108 ∷ 114 ∷ 101 ∷ 97 ∷ 100 ∷ 121 ∷ 44 ∷ 32 ∷ 111 ∷
    114 ∷ 32 ∷ 105 ∷ 110 ∷ 115 ∷ 105 ∷ 100 ∷ 101 ∷ 32 ∷ 97 ∷ 32 ∷ 119 ∷ 104 ∷ 111 ∷ 108 ∷ 101 ∷ 32 ∷ 99 ∷ 101 ∷ 108 ∷ 108 ∷ 10 ∷ []
unfolding change_line kind_words printed
already-line = refl

-- "14 2: not above the one right before it"
pub above-line :
    change_line 14 2 ≡
    49 ∷ 52 ∷ 32 ∷ 50 ∷ 58 ∷ 32 ∷ 110 ∷ 111 ∷ 116 ∷ 32 ∷ 97 ∷ 98 ∷ 111 ∷ 118 ∷ 101 ∷ 32 ∷ 116 ∷ 104 ∷ 101 ∷ 32 ∷ 111 ∷ 110 ∷
    101 ∷ 32 ∷ 114 ∷ 105 ∷ 103 ∷ 104 ∷ 116 ∷ 32 ∷ 98 ∷ 101 ∷ 102 ∷ 111 ∷ 114 ∷ 101 ∷ 32 ∷ 105 ∷ 116 ∷ 10 ∷ []
unfolding change_line kind_words printed
above-line = refl

-- "10 3: an empty list"
pub empty-line :
    change_line 10 3 ≡
    49 ∷ 48 ∷ 32 ∷ 51 ∷ 58 ∷ 32 ∷ 97 ∷ 110 ∷ 32 ∷ 101 ∷ 109 ∷ 112 ∷ 116 ∷ 121 ∷ 32 ∷ 108 ∷ 105 ∷ 115 ∷ 116 ∷ 10 ∷ []
unfolding change_line kind_words printed
empty-line = refl

-- "65535 4: whole by its parts"
pub parts-line :
    change_line 65535 4 ≡
    54 ∷ 53 ∷ 53 ∷ 51 ∷ 53 ∷ 32 ∷ 52 ∷ 58 ∷ 32 ∷ 119 ∷ 104 ∷ 111 ∷ 108 ∷ 101 ∷ 32 ∷ 98 ∷ 121 ∷ 32 ∷ 105 ∷ 116 ∷ 115 ∷ 32 ∷
    112 ∷ 97 ∷ 114 ∷ 116 ∷ 115 ∷ 10 ∷ []
unfolding change_line kind_words printed
parts-line = refl

-- Images of worked values.
--     head_words link      the words of a high-speed queue head that is halted, with this word as its link
--     head_line            the line of the first at 0
--     based_head_line      that of the first at 7FF40000h
use Rattle.std.specs.Prelude.{ℕ, List, [], ◌∷◌, codes}
use Rattle.image_show.specs.Text.{line}

abbrev pub head_words : ℕ → List ℕ
head_words link = link ∷ 0x40a000 ∷ 0x40000000 ∷ 0 ∷ 1 ∷ 1 ∷ 0x40 ∷ 0 ∷ 0 ∷ 0 ∷ 0 ∷ 0 ∷ []

abbrev pub head_line : List ℕ
head_line = line (codes "  qh 00000000 0.0 high max 64 s 00 c 00 token 00000040")

abbrev pub based_head_line : List ℕ
based_head_line = line (codes "  qh 7ff40000 0.0 high max 64 s 00 c 00 token 00000040")

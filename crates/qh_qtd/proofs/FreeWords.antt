-- Words with no reserved bit and no reserved value.
use Rattle.std.proofs.Common.{◌≡◌, ℕ, None, refl}
use Rattle.link_words.specs.Layout.{ranges_of, first_bad_bit}
use Rattle.qh_qtd.specs.Qtd.{buffer_rows}
use Rattle.qh_qtd.specs.QueueHead.{capabilities_rows, alternate_rows, offset_rows, frame_rows}

pub buffer_free : (w : ℕ) → first_bad_bit (ranges_of buffer_rows) w ≡ None
unfolding first_bad_bit
buffer_free w = refl

pub capabilities_free : (w : ℕ) → first_bad_bit (ranges_of capabilities_rows) w ≡ None
unfolding first_bad_bit
capabilities_free w = refl

pub alternate_free : (w : ℕ) → first_bad_bit (ranges_of alternate_rows) w ≡ None
unfolding first_bad_bit
alternate_free w = refl

pub offset_free : (w : ℕ) → first_bad_bit (ranges_of offset_rows) w ≡ None
unfolding first_bad_bit
offset_free w = refl

pub frame_free : (w : ℕ) → first_bad_bit (ranges_of frame_rows) w ≡ None
unfolding first_bad_bit
frame_free w = refl

pub ruleset free_words = (buffer_free, capabilities_free, alternate_free, frame_free)

-- How long a line is, and what breaks that.
use Rattle.std.proofs.Common.{◌≡◌, ℕ, ◌+◌, ◌-◌, ◌*◌, ◌/◌, ◌%◌, ◌<◌, ◌≤◌, Bool, true, false, List, [], ◌∷◌, length, refl, ap, sym, ◌∙◌, arith}
use Rattle.std.specs.Prelude.{slice_index, min, nat_le, if◌then◌else◌}
use Rattle.std.specs.List.{range_with_len, sum_by}
use Rattle.std.proofs.lemmas.Bool.{false≢true}
use Rattle.std.proofs.lemmas.Bool.Decides.{nat_tests}
use Rattle.std.proofs.lemmas.List.{length-map, length-take}
use Rattle.std.proofs.lemmas.List.Concat.{length-flat_map}
use Rattle.std.proofs.lemmas.List.Sums.{sum_by-cons}
use Rattle.std.proofs.lemmas.List.FromFn.{length-range_with_len}
use Rattle.usb_base.specs.declared.endpoints.EndCause.TheVariants as causes
use Rattle.usb_base.specs.declared.reports.What.{What}
use Rattle.usb_base.specs.declared.reports.What.TheVariants as lines
use Rattle.word_mem.specs.Memory.{Mem}
use Rattle.word_mem.specs.Views.{byte_at}
use Rattle.qh_qtd.specs.declared.token.Token.{Token}
use Rattle.drv_table.specs.declared.content.QtdNote.{QtdNote}
use Rattle.drv_table.specs.Harvests.{note_at}
use Rattle.claims_answers.specs.Telling.{token_of, HasReason, done, failed, stalled, less, qtds_of, bytes_in, bytes_read}
use Rattle.law_telling.specs.Lengths.{LengthsAddUp, OneQtdTells, NoBytesIsWrong, three_errors, a_stall, ErrorIsToldAsError, StallIsToldAsStall, ErrorAsStallIsWrong, StallAsErrorIsWrong, ErrorAsDoneIsWrong}

buffer_long : (m : Mem) (blocks : List ℕ) (n : ℕ) → length (bytes_in m blocks n) ≡ n
buffer_long m blocks n =
    length-map (range_with_len 0 n) (λ j. byte_at m (32 * slice_index blocks (j / 4096) + j % 4096)) ∙ length-range_with_len 0 n

sums : (notes : List QtdNote) (m : Mem) (blocks : List ℕ)
    → sum_by (λ b. length (bytes_in m (note_at notes b).buffer (note_at notes b).moved)) blocks ≡ sum_by
    (λ b. (note_at notes b).moved) blocks
sums notes m [] = refl
sums notes m (b ∷ bs) =
    sum_by-cons (λ c. length (bytes_in m (note_at notes c).buffer (note_at notes c).moved)) b bs
    ∙ ap (λ (n : ℕ). n + sum_by (λ c. length (bytes_in m (note_at notes c).buffer (note_at notes c).moved)) bs)
    (buffer_long m (note_at notes b).buffer (note_at notes b).moved)
    ∙ ap (λ (n : ℕ). (note_at notes b).moved + n) (sums notes m bs)
    ∙ sym (sum_by-cons (λ c. (note_at notes c).moved) b bs)

read_long : (notes : List QtdNote) (m : Mem) (blocks : List ℕ)
    → length (bytes_read notes m blocks) ≡ sum_by (λ b. (note_at notes b).moved) blocks
read_long notes m blocks = length-flat_map (λ b. bytes_in m (note_at notes b).buffer (note_at notes b).moved) blocks ∙ sums notes m blocks

pub lengths_add_up : LengthsAddUp
lengths_add_up p notes line bytes told =
    ap length told.bytes_are
    ∙ length-take told.of.transfer.most (bytes_read notes p.memory (qtds_of notes told.of.transfer.first told.of.transfer.qtds))
    ∙ ap (min told.of.transfer.most) (read_long notes p.memory (qtds_of notes told.of.transfer.first told.of.transfer.qtds))

single : (notes : List QtdNote) (b n : ℕ) → n ≡ 1 → sum_by (λ c. (note_at notes c).moved) (qtds_of notes b n) ≡ (note_at notes b).moved
single notes b n is =
    ap (λ (k : ℕ). sum_by (λ c. (note_at notes c).moved) (qtds_of notes b k)) is
    ∙ sum_by-cons (λ c. (note_at notes c).moved) b []
    ∙ omega arith

pub one_qtd_tells : OneQtdTells
one_qtd_tells p notes line bytes told one =
    lengths_add_up p notes line bytes told
    ∙ ap (min told.of.transfer.most)
    (single notes told.of.transfer.first told.of.transfer.qtds one.one ∙ ap (λ (b : ℕ). (note_at notes b).moved) one.first ∙ told.noted
    one.within)

some_less : (long left : ℕ) → left < long → 1 ≤ less long left
some_less long left low = by (nat_le left long) refl
  where
    by : (b : Bool) → nat_le left long ≡ b → 1 ≤ (if b then long - left else 0)
    by true is = omega (arith, low)
    by false is = let high : long < left = grind (arith, nat_tests) in absurd (omega (arith, low, high))

pub no_bytes_is_wrong : NoBytesIsWrong
no_bytes_is_wrong p notes line told one most left =
    let some = some_less (note_at p.driver.notes told.of.transfer.place).told (token_of p.memory told.of.transfer.place).total left in
    let is = one_qtd_tells p notes line [] told one in
    omega (arith, some, is, most)

-- ---- what a halted token tells

-- of these two, by what is told
abbrev Denies : Token → What → Type 0
Denies t (lines.Halt causes.Stall) = t.cerr ≡ 0 → ⊥
Denies t (lines.Halt causes.Error) = t.cerr ≡ 0
Denies t lines.Done = t.halted ≡ false
Denies t _ = Unit {0}

denies : (get last : Bool) (t : Token) (what : What) → HasReason get last t what → Denies t what
denies get last t lines.Done (done off up why) = up
denies get last t (lines.Halt causes.Error) (failed off on m b c) = c
denies get last t (lines.Halt causes.Stall) (stalled off on m b c) = c
denies get last t lines.Miss why = tt
denies get last t (lines.Halt causes.Babble) why = tt
denies get last t (lines.Halt causes.Miss) why = tt
denies get last t (lines.Halt causes.Cancel) why = tt
denies get last t lines.Cancel why = tt
denies get last t (lines.Iso errors) why = tt
denies get last t (lines.Refused line cause) why = tt
denies get last t lines.Clear why = tt
denies get last t (lines.ClearFailed cause) why = tt
denies get last t (lines.Port port value) why = tt
denies get last t (lines.Disk tag passed) why = tt
denies get last t lines.DiskReset why = tt

three_zero : ◌≡◌ {A = ℕ} 3 0 → ⊥
three_zero is = omega (arith, is)

pub error_is_told_as_error : ErrorIsToldAsError
error_is_told_as_error get last = failed refl refl refl refl refl

pub stall_is_told_as_stall : StallIsToldAsStall
stall_is_told_as_stall get last = stalled refl refl refl refl three_zero

pub error_as_stall_is_wrong : ErrorAsStallIsWrong
error_as_stall_is_wrong get last why = denies get last three_errors (lines.Halt causes.Stall) why refl

pub stall_as_error_is_wrong : StallAsErrorIsWrong
stall_as_error_is_wrong get last why = three_zero (denies get last a_stall (lines.Halt causes.Error) why)

pub error_as_done_is_wrong : ErrorAsDoneIsWrong
error_as_done_is_wrong get last why = false≢true (sym (denies get last three_errors lines.Done why))

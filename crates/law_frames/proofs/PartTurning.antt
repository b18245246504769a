-- What a transaction or a miss changes of a siTD, and where its next byte is after some were moved.
use Rattle.std.proofs.Common.{◌≡◌, ℕ, ◌+◌, ◌*◌, ◌%◌, ◌<◌, ◌≤◌, Bool, true, false, ◌||◌, if◌then◌else◌, ◌⊎◌, ⊎_elim, ap, refl, arith}
use Rattle.std.specs.Prelude.{nat_le}
use Rattle.std.proofs.lemmas.Bool.Decides.{leb_tells}
use Rattle.usb_base.specs.declared.packets.Reply.{Reply}
use Rattle.itd_sitd.specs.declared.sitd.Sitd.{Sitd}
use Rattle.hc_iso.specs.declared.held.SplitHeard.{SplitHeard}
use Rattle.hc_iso.specs.declared.held.SplitHeard.TheVariants as heards
use Rattle.hc_iso.specs.Sitd.{after_split_heard, marked, after_complete, after_start, after_part, heard_by, in_after, sitd_after, missed_sitd, bit, sitd_place, moved_sitd}
use Rattle.law_frames.specs.Frame.{turned}

either_same : (v x y : Sitd) (b : Bool) → turned v x ≡ x → turned v y ≡ y → turned v (if b then x else y) ≡ (if b then x else y)
either_same v x y true one other = one
either_same v x y false one other = other

heard_same : (heard : SplitHeard) (v : Sitd) → turned v (after_split_heard heard v) ≡ after_split_heard heard v
heard_same (heards.Data last n) v = refl
heard_same _ v = refl

marked_same : (u : ℕ) (v w : Sitd) → turned v w ≡ w → turned v (marked u w) ≡ marked u w
marked_same u v w same = ap (λ (z : Sitd). record z { c_prog = (marked u w).c_prog }) same

complete_same : (u : ℕ) (heard : SplitHeard) (v : Sitd) → turned v (after_complete u heard v) ≡ after_complete u heard v
unfolding after_complete
complete_same u heard v = marked_same u v (after_split_heard heard v) (heard_same heard v)

start_same : (v : Sitd) → turned v (after_start v) ≡ after_start v
unfolding after_start
start_same v = refl

part_same : (u : ℕ) (v : Sitd) → turned v (after_part u v) ≡ after_part u v
unfolding after_part
part_same u v = refl

pub turn_same : (u : ℕ) (reply : Reply) (v : Sitd) → turned v (sitd_after u reply v) ≡ sitd_after u reply v
turn_same u reply v =
    either_same v (in_after u reply v) (after_part u v) v.dir_in
    (either_same v (after_complete u (heard_by u v reply) v) (after_start v) v.split_state (complete_same u (heard_by u v reply) v) (start_same v)) (part_same u v)

pub miss_same : (v : Sitd) → turned v (missed_sitd v) ≡ missed_sitd v
unfolding missed_sitd
miss_same v = refl

-- ---- the place

into_second : (o n : ℕ) (b : Bool) → ((b ≡ true) × (4096 ≤ o + n)) ⊎ ((b ≡ false) × (o + n < 4096)) → o + n < 8192 → bit (false || b) * 4096 + (o + n) % 4096 ≡ bit false * 4096 + o + n
into_second o n true tells within =
    ⊎_elim (λ (k : (true ≡ true) × (4096 ≤ o + n)). let low = k.1 in omega (arith, low, within)) (λ (k : (true ≡ false) × (o + n < 4096)). cc) tells
into_second o n false tells within =
    ⊎_elim (λ (k : (false ≡ true) × (4096 ≤ o + n)). cc) (λ (k : (false ≡ false) × (o + n < 4096)). let high = k.1 in omega (arith, high)) tells

page_at : (o n : ℕ) (p : Bool) → bit p * 4096 + o + n < 8192 → bit (p || nat_le 4096 (o + n)) * 4096 + (o + n) % 4096 ≡ bit p * 4096 + o + n
page_at o n true within = omega (arith, within)
page_at o n false within = into_second o n (nat_le 4096 (o + n)) (leb_tells 4096 (o + n)) (omega (arith, within))

pub its_place_moves_on : (n : ℕ) (v : Sitd) → sitd_place v + n < 8192 → sitd_place (moved_sitd n v) ≡ sitd_place v + n
unfolding moved_sitd
its_place_moves_on n v within = page_at v.offset n v.page_select within

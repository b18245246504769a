-- A walk is got back from its parts.
use Rattle.std.proofs.Common.{◌≡◌, ℕ, ◌%◌, Bool, true, ◌==◌, Option, None, Some, Result, Ok, if◌then◌else◌, refl, sym, ap, ◌∙◌}
use Rattle.std.proofs.lemmas.Bool.{eqb-true}
use Rattle.std.specs.Prelude.{IfSome, option_map}
use Rattle.usb_base.specs.declared.packets.Reply.{Reply}
use Rattle.link_words.specs.declared.kinds.Link.{Link}
use Rattle.link_words.specs.declared.kinds.Link.TheVariants as links
use Rattle.link_words.specs.declared.refusal.Bad.{Bad}
use Rattle.link_words.specs.Links.{IsAligned, address_of}
use Rattle.qh_qtd.specs.declared.queue_head.Qh.{Qh}
use Rattle.qh_qtd.specs.QueueHead.{qh_words, qh_read}
use Rattle.qh_qtd.proofs.QhLaws.{qh_read-words}
use Rattle.hc_copy.specs.declared.held.Held.{Held}
use Rattle.hc_copy.specs.Visits.{IsHeld}
use Rattle.async_walk.specs.declared.state.Cursor.{Cursor}
use Rattle.async_walk.specs.declared.state.Cursor.TheVariants as cursors
use Rattle.async_walk.specs.declared.parts.HeldParts.{HeldParts}
use Rattle.async_walk.specs.declared.parts.RingParts.{RingParts}
use Rattle.async_walk.specs.Walk.{Walk, IsWalk, IsCursor, cursor_address}
use Rattle.async_walk.specs.Parts.{held_parts, held_at, held_from, hand_from, ring_parts, is_cursor, walk_at, walk_from}

at_zero : (n : ℕ) → n ≡ 0 → (n == 0) ≡ true
at_zero n e = ap (λ k. k == 0) e

held_again : (h : Held) → IsHeld h → held_from (held_parts h) ≡ Some h
held_again h is =
    ap (λ b. held_at b (qh_read (qh_words h.queue_head)) (held_parts h)) (at_zero (h.at % 32) is.aligned)
    ∙ ap (λ r. held_at true r (held_parts h)) (qh_read-words h.queue_head is.range)

-- a copy is read from its parts
pub held_back : (p : HeldParts) (h : Held) → IsHeld h → held_parts h ≡ p → held_from p ≡ Some h
held_back p h is e = ap held_from (sym e) ∙ held_again h is

hand_again : (held : Option Held) → IfSome held IsHeld → hand_from (option_map held_parts held) ≡ Some held
hand_again None is = refl
hand_again (Some h) is = ap (option_map Some) (held_again h is)

aligned_is : (l : Link) → IsAligned l → is_cursor (cursors.At l) ≡ true
aligned_is links.End is = refl
aligned_is (links.Itd a) is = at_zero (a % 32) is
aligned_is (links.Qh a) is = at_zero (a % 32) is
aligned_is (links.Sitd a) is = at_zero (a % 32) is
aligned_is (links.Fstn a) is = at_zero (a % 32) is

place_is : (c : Cursor) → IsCursor c → is_cursor c ≡ true
place_is cursors.Start is = refl
place_is (cursors.At link) is = aligned_is link is

link_is : (l : Link) → is_cursor (cursors.At l) ≡ true → IsAligned l
link_is links.End e = tt
link_is (links.Itd a) e = eqb-true (a % 32) 0 e
link_is (links.Qh a) e = eqb-true (a % 32) 0 e
link_is (links.Sitd a) e = eqb-true (a % 32) 0 e
link_is (links.Fstn a) e = eqb-true (a % 32) 0 e

-- an address that is a multiple of 32 is one of a cursor
pub cursor_is : (c : Cursor) → is_cursor c ≡ true → IsCursor c
cursor_is cursors.Start e = tt
cursor_is (cursors.At link) e = link_is link e

walk_again : (w : Walk) → IsWalk w.cursor w.held → walk_from (ring_parts w) w.reply ≡ Some w
walk_again w is =
    ap (λ (b : Bool). if b then walk_at (hand_from (option_map held_parts w.held)) (ring_parts w) w.reply else None)
    (place_is w.cursor is.place)
    ∙ ap (λ h. walk_at h (ring_parts w) w.reply) (hand_again w.held is.copy)

-- a walk is read from its parts
pub walk_back : (p : RingParts) (reply : Reply) (w : Walk) → IsWalk w.cursor w.held → ring_parts w ≡ p → w.reply ≡ reply
    → walk_from p reply ≡ Some w
walk_back p reply w is e heard = ap (λ q. walk_from q reply) (sym e) ∙ ap (walk_from (ring_parts w)) (sym heard) ∙ walk_again w is

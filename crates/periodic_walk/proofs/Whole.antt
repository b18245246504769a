-- A walk is got back from its parts.
use Rattle.std.proofs.Common.{◌≡◌, ℕ, ◌%◌, ◌≤◌, Bool, true, ◌==◌, ◌&&◌, nat_le, List, length, Option, None, Some, if◌then◌else◌, refl, sym, ap, ◌∙◌}
use Rattle.std.specs.Prelude.{option_map}
use Rattle.std.proofs.lemmas.Bool.{and_from, eqb-true, eq-eqb, le-leb}
use Rattle.usb_base.specs.declared.packets.Reply.{Reply}
use Rattle.link_words.specs.declared.kinds.Link.{Link}
use Rattle.link_words.specs.declared.kinds.Link.TheVariants as links
use Rattle.link_words.specs.Links.{IsAligned, address_of}
use Rattle.periodic_walk.specs.declared.parts.FrameParts.{FrameParts}
use Rattle.periodic_walk.specs.Walk.{Walk, IsWalk}
use Rattle.periodic_walk.specs.HandParts.{hand_parts, in_hand_from}
use Rattle.periodic_walk.specs.Parts.{frame_parts, is_place, walk_at, walk_from}
use Rattle.periodic_walk.proofs.Hands.{in_hand_back}

is_at : (l : Link) → IsAligned l → is_place l ≡ true
is_at links.End is = refl
is_at (links.Itd a) is = eq-eqb (a % 32) 0 is
is_at (links.Qh a) is = eq-eqb (a % 32) 0 is
is_at (links.Sitd a) is = eq-eqb (a % 32) 0 is
is_at (links.Fstn a) is = eq-eqb (a % 32) 0 is

-- an address that is a multiple of 32 is one of a cursor
pub place_is : (l : Link) → is_place l ≡ true → IsAligned l
place_is links.End e = tt
place_is (links.Itd a) e = eqb-true (a % 32) 0 e
place_is (links.Qh a) e = eqb-true (a % 32) 0 e
place_is (links.Sitd a) e = eqb-true (a % 32) 0 e
place_is (links.Fstn a) e = eqb-true (a % 32) 0 e

walk_again : (w : Walk) → IsWalk w.cursor w.hand w.got → length w.got ≤ 3072 → walk_from (frame_parts w) w.reply w.got ≡ Some w
walk_again w is fits =
    ap
    (λ (b : Bool).
    if b then walk_at (in_hand_from (length w.got) (option_map hand_parts w.hand)) (frame_parts w) w.reply w.got else None)
    (and_from (nat_le (length w.got) 3072) (is_place w.cursor) (le-leb (length w.got) 3072 fits) (is_at w.cursor is.place))
    ∙ ap (λ h. walk_at h (frame_parts w) w.reply w.got) (in_hand_back w.got w.hand is.copy)

-- a walk is read from its parts
pub walk_back : (p : FrameParts) (reply : Reply) (got : List ℕ) (w : Walk) → IsWalk w.cursor w.hand w.got → length w.got ≤ 3072
    → frame_parts w ≡ p → w.reply ≡ reply → w.got ≡ got → walk_from p reply got ≡ Some w
walk_back p reply got w is fits e heard received =
    ap (λ q. walk_from q reply got) (sym e)
    ∙ ap (λ r. walk_from (frame_parts w) r got) (sym heard)
    ∙ ap (walk_from (frame_parts w) w.reply) (sym received)
    ∙ walk_again w is fits

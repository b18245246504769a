-- What a driver may do to the qTDs and buffers of a queue head that the walk of the frames may meet (EHCI 1.0, 3.5, 3.6 and 4.10), as in a ring.
use Rattle.std.specs.Prelude.{◌≡◌, ℕ, ◌+◌, ◌*◌, ◌<◌, Bool, false, List, slice_set, Option, Some, None}
use Rattle.word_mem.specs.Memory.{with_word}
use Rattle.qh_qtd.specs.declared.qtd.Qtd.{Qtd}
use Rattle.qh_qtd.specs.Qtd.{qtd_words, IsQtdInRange}
use Rattle.periodic_walk.specs.Place.{FramePlace}
use Rattle.hc_core.specs.Controller.{Content}
use Rattle.law_structures.specs.lent_structures.Structures.{Element, Buffer, Structures, StructureSets, with_structure, put, without_structure}
use Rattle.law_structures.specs.lent_structures.Sound.{IsSoundElement}
use Rattle.law_ring.specs.Hand.{Hand}
use Rattle.claims_base.specs.Controller.{Base}
use Rattle.law_ring.specs.Stores.{IsUnnamed, NamesOne, IsUnled, IsUnused}
use Rattle.law_frames.specs.Met.{Kind, IsMetQueue, IsMetAs}
use Rattle.law_frames.specs.FrameHand.{FrameHand}
use Rattle.law_frames.specs.Frame.{IsFrame}
use Rattle.law_controller.specs.frame_control.Both.{RunsBoth}

-- an inactive qTD changes, or is added
abbrev pub MetElementMayChange : Type 0
MetElementMayChange = (met : ℕ → Option Kind) (n : ℕ) (part : Structures) (a : ℕ) (d new : Qtd) → IsMetQueue met n part → part a ≡ Some (Element d) → d.token.active ≡ false
    → IsSoundElement part new → IsUnnamed part a new → IsMetQueue met n (with_structure part a (Element new))

abbrev pub MetElementMayCome : Type 0
MetElementMayCome = (met : ℕ → Option Kind) (n : ℕ) (part : Structures) (a : ℕ) (new : Qtd) → IsMetQueue met n part → part a ≡ None
    → IsSoundElement part new → IsUnnamed part a new → IsMetQueue met n (with_structure part a (Element new))

abbrev pub MetBufferMayCome : Type 0
MetBufferMayCome = (met : ℕ → Option Kind) (n : ℕ) (part : Structures) (a : ℕ) (pages : List ℕ) (k : ℕ) (bs : List ℕ) → IsMetQueue met n part → part a ≡ None
    → NamesOne part a → IsMetQueue met n (with_structure part a (Buffer pages k bs))

-- a qTD is taken away, to which nothing leads and on which the overlay doesn't work, or a buffer that no qTD needs any more
abbrev pub MetElementMayGo : Type 0
MetElementMayGo = (met : ℕ → Option Kind) (n : ℕ) (part : Structures) (a : ℕ) (d : Qtd) → (m : IsMetQueue met n part) → part a ≡ Some (Element d)
    → IsUnled part m.part_is.queue a → IsMetQueue met n (without_structure part a)

abbrev pub MetBufferMayGo : Type 0
MetBufferMayGo = (met : ℕ → Option Kind) (n : ℕ) (part : Structures) (a : ℕ) (pages : List ℕ) (k : ℕ) (bs : List ℕ) → IsMetQueue met n part
    → part a ≡ Some (Buffer pages k bs) → IsUnused part a → IsMetQueue met n (without_structure part a)

-- ---- stores

-- a word of a qTD, where what is met of its owner is sound with it
abbrev pub ElementStoreLeavesFrame : Type 0
ElementStoreLeavesFrame = (met : ℕ → Option Kind) (parts : StructureSets) (hand : FrameHand) (p : FramePlace) (n a : ℕ) (d new : Qtd) (k v : ℕ)
    → IsFrame met parts hand p → parts n a ≡ Some (Element d) → k < 8 → qtd_words new ≡ slice_set (qtd_words d) k v → IsQtdInRange new
    → ((kind : Kind) → met n ≡ Some kind → IsMetAs met n (with_structure (parts n) a (Element new)) kind)
    → IsFrame met (put parts n a (Element new)) hand (record p { memory = with_word p.memory (a + 4 * k) v })

-- of an owner that isn't of the ring
abbrev pub ElementStoreLeavesBoth : Type 0
ElementStoreLeavesBoth = (base : Base) (member : ℕ → Bool) (met : ℕ → Option Kind) (parts : StructureSets) (hand : Hand) (frame : FrameHand) (c : Content) (n a : ℕ) (d new : Qtd)
    (k v : ℕ) → RunsBoth base member met parts hand frame c → parts n a ≡ Some (Element d) → k < 8 → qtd_words new ≡ slice_set (qtd_words d) k v → IsQtdInRange new
    → member n ≡ false → ((kind : Kind) → met n ≡ Some kind → IsMetAs met n (with_structure (parts n) a (Element new)) kind)
    → RunsBoth base member met (put parts n a (Element new)) hand frame (record c { memory = with_word c.memory (a + 4 * k) v })

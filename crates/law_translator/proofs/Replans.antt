-- The plan of a frame changes while entries are there: endpoints are placed, and others are given back of which no start came in this frame.
use Rattle.std.proofs.Common.{ℕ, List, [], ◌∷◌, arith}
use Rattle.usb_base.specs.declared.packets.Ask.{Ask}
use Rattle.hub_keys.specs.declared.key.Key.{Key}
use Rattle.tt_pipeline.specs.declared.entry.Brought.{Brought}
use Rattle.law_translator.specs.Plans.{Fits}
use Rattle.claims_world.specs.Plans.{Plan}
use Rattle.law_translator.specs.Premises.{IsLaidAs, AllLaidAs}
use Rattle.law_translator.specs.Frames.{Frame}
use Rattle.claims_world.specs.Watched.{Watched}
use Rattle.law_translator.proofs.Keys.{AllIn}
use Rattle.law_translator.proofs.Sums.{AllLater, Sorted}
use Rattle.law_translator.proofs.Owing.{Came, unseen, partial, ended, Grew, same, more, Coming, Owing}
use Rattle.law_translator.proofs.Work.{keys_of, All, AllOwe}
use Rattle.law_translator.proofs.Holds.{Holds}

came_as : (p q : Plan) (k : Key) (ask : Ask) (b : Brought) (g u : ℕ) → IsLaidAs p q k → Came p k ask b g u → Came q k ask b g u
came_as p q k ask b g u l (unseen is none ahead) = unseen is none (omega (arith, l.first))
came_as p q k ask b g u l (partial lacks some count bytes begun) = partial lacks some (rw l.first count) bytes (omega (arith, l.first))
came_as p q k ask b g u l (ended whole fits begun) = ended whole (omega (arith, l.times)) (omega (arith, l.first))

grew_as : (p q : Plan) (k : Key) (ask : Ask) (a b : Brought) (g : ℕ) → IsLaidAs p q k → Grew p k ask a b g → Grew q k ask a b g
grew_as p q k ask a b g l (same is) = same is
grew_as p q k ask a b g l (more lacked fits rises no_gap) = more lacked (omega (arith, l.times)) rises no_gap

pub coming_as : (most : ℕ) (p q : Plan) (now : ℕ) (w : Watched) → IsLaidAs p q w.entry.key → Coming most p now w → Coming most q now w
coming_as most p q now w l o = record {
  heard = came_as p q _ _ _ _ _ l o.heard;
  before = came_as p q _ _ _ _ _ l o.before;
  came = came_as p q _ _ _ _ _ l o.came;
  seen = o.seen;
  grew = grew_as p q _ _ _ _ _ l o.grew;
  grows = grew_as p q _ _ _ _ _ l o.grows;
  within = omega (arith, o.within, l.times);
  bits = o.bits;
  plain = o.plain;
  classic = o.classic;
  asked = o.asked;
}

owing_as : (p q : Plan) (now : ℕ) (w : Watched) → IsLaidAs p q w.entry.key → Owing p now w → Owing q now w
owing_as p q now w l o = record {
  comes = coming_as 0 p q now w l o.comes;
  below = o.below;
  kept = rw (l.first, l.times) o.kept;
  even = o.even;
}

owe_as : (p q : Plan) (now : ℕ) (ws : List Watched) → AllLaidAs p q ws → AllOwe p now ws → AllOwe q now ws
owe_as p q now [] l o = tt
owe_as p q now (w ∷ ws) l o = (owing_as p q now w l.0 o.0, owe_as p q now ws l.1 o.1)

pub coming_all_as : (most : ℕ) (p q : Plan) (now : ℕ) (ws : List Watched) → AllLaidAs p q ws → All (Coming most p now) ws
    → All (Coming most q now) ws
coming_all_as most p q now [] l o = tt
coming_all_as most p q now (w ∷ ws) l o = (coming_as most p q now w l.0 o.0, coming_all_as most p q now ws l.1 o.1)

later_as : (p q : Plan) (k : Key) (ws : List Watched) → IsLaidAs p q k → AllLaidAs p q ws → AllLater p k (keys_of ws)
    → AllLater q k (keys_of ws)
later_as p q k [] l ls s = tt
later_as p q k (w ∷ ws) l ls s = (omega (arith, l.first, ls.0.first, s.0), later_as p q k ws l ls.1 s.1)

pub sorted_as : (p q : Plan) (ws : List Watched) → AllLaidAs p q ws → Sorted p (keys_of ws) → Sorted q (keys_of ws)
sorted_as p q [] l s = tt
sorted_as p q (w ∷ ws) l s = (later_as p q w.entry.key ws l.0 l.1 s.0, sorted_as p q ws l.1 s.1)

pub members_as : (p q : Plan) (ws : List Watched) → AllLaidAs p q ws → AllIn (keys_of ws) q.keys
members_as p q [] l = tt
members_as p q (w ∷ ws) l = (l.0.there, members_as p q ws l.1)

pub replanned : (f : Frame) (q : Plan) → Holds f → Fits q → AllLaidAs f.plan q f.watched → Holds (record f { plan = q })
replanned f q h fits l = record {
  fits = fits;
  sorted = sorted_as f.plan q _ l h.sorted;
  distinct = h.distinct;
  members = members_as f.plan q _ l;
  owe = owe_as f.plan q f.now f.watched l h.owe;
}

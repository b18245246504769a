-- The results are there by the last complete-splits.
use Rattle.std.proofs.Common.{◌≡◌, ℕ, ◌+◌, ◌≤◌, List, [], ◌∷◌}
use Rattle.tt_pipeline.specs.Work.{called_for}
use Rattle.law_translator.specs.Plans.{Fits}
use Rattle.claims_world.specs.Plans.{Plan}
use Rattle.law_translator.specs.Frames.{Event, run, opening}
use Rattle.claims_world.specs.Watched.{Watched}
use Rattle.law_translator.specs.Premises.{FairAll}
use Rattle.claims_world.specs.KeepsUp.{KeepsUp}
use Rattle.claims_world.specs.Answered.{end_of, IsAnswered, AllAnswered}
use Rattle.law_translator.proofs.Keeps.{owed_kept, keeps_all, opening_holds}
use Rattle.law_translator.proofs.KeepsStuffed.{stuffed_keeps_all, stuffed_opening}
use Rattle.law_translator.proofs.Owing.{Coming, Owing}
use Rattle.law_translator.proofs.Results.{result_is_there, last_is_there, laid_by_end}
use Rattle.law_translator.proofs.Stuffed.{Settles}
use Rattle.law_translator.proofs.Work.{All, AllOwe}

owed_answered : (p : Plan) (now : ℕ) (w : Watched) → Owing p now w → IsAnswered 1 p now w
owed_answered p now w o =
    let k : KeepsUp p now w = owed_kept p now w o in
    record {
      result = λ kind whole late _. k.answered kind whole (laid_by_end (p.times w.entry.key) (p.first w.entry.key) now 1 late);
      last =
          λ pid bytes h late _. last_is_there w pid bytes (k.whole h.whole
          (laid_by_end (p.times w.entry.key) (p.first w.entry.key) now 1 late)) h;
    }

pub all_owed : (p : Plan) (now : ℕ) (ws : List Watched) → AllOwe p now ws → AllAnswered 1 p now ws
all_owed p now [] owe = tt
all_owed p now (w ∷ ws) owe = (owed_answered p now w owe.0, all_owed p now ws owe.1)

pub answers_are_there : (p : Plan) → Fits p → (events : List Event) → FairAll 0 events (opening p)
    → AllAnswered 1 (run events (opening p)).plan (run events (opening p)).now (run events (opening p)).watched
answers_are_there p fits events fair = all_owed _ _ _ (keeps_all events (opening p) (opening_holds p fits) fair).owe

settled_answered : (p : Plan) (now : ℕ) (w : Watched) → Coming 6 p now w → Settles p now w → IsAnswered 2 p now w
settled_answered p now w o s =
    let done : end_of p w.entry.key + 2 ≤ now → now ≤ 8 → w.entry.done ≡ called_for w.entry = λ late when. s.settled when
    (laid_by_end (p.times w.entry.key) (p.first w.entry.key) now 2 late) in
    record {
      result = λ kind whole late when. result_is_there 6 p now w o (done late when) kind whole;
      last = λ pid bytes h late when. last_is_there w pid bytes (done late when) h;
    }

pub all_settled : (p : Plan) (now : ℕ) (ws : List Watched) → All (Coming 6 p now) ws → All (Settles p now) ws → AllAnswered 2 p now ws
all_settled p now [] comes settles = tt
all_settled p now (w ∷ ws) comes settles = (settled_answered p now w comes.0 settles.0, all_settled p now ws comes.1 settles.1)

pub stuffed_answers_are_there : (p : Plan) → Fits p → (events : List Event) → FairAll 6 events (opening p)
    → AllAnswered 2 (run events (opening p)).plan (run events (opening p)).now (run events (opening p)).watched
stuffed_answers_are_there p fits events fair =
    let h = stuffed_keeps_all events (opening p) (stuffed_opening p fits) fair in
    all_settled _ _ _ h.comes h.settles

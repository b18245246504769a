-- The work of the pipeline and then of the buffers is the work of the translator.
use Rattle.std.proofs.Common.{◌≡◌, ℕ, ◌-◌, List, subst}
use Rattle.usb_base.specs.declared.packets.Ask.{Ask}
use Rattle.usb_base.specs.declared.packets.Reply.{Reply}
use Rattle.tt_bulk.specs.Contents.{TwoBuffers}
use Rattle.tt_bulk.specs.Work.{Works}
use Rattle.tt_pipeline.specs.declared.entry.Entry.{Entry}
use Rattle.tt_pipeline.specs.Working.{budget, used_by, IsWorked}
use Rattle.multi_tt.specs.Single.{TranslatorWorks}

pub translator_works :
    {W : Type 0} (transacts : W → Ask → List ℕ → Reply → W → Type 0) (frindex : ℕ)
    (bulk bulk' : TwoBuffers) (pipeline pipeline' : List Entry) (used : ℕ) (before between after : W)
    → used ≡ used_by budget pipeline → IsWorked transacts frindex pipeline before between pipeline'
    → Works transacts (budget - used) bulk between bulk' after
    → TranslatorWorks transacts frindex (record { bulk = bulk; pipeline = pipeline })
    before (record { bulk = bulk'; pipeline = pipeline' }) after
translator_works transacts frindex bulk bulk' pipeline pipeline' used before between after e first then = record {
  between = between;
  pipeline = first;
  bulk = subst (λ (n : ℕ). Works transacts (budget - n) bulk between bulk' after) e then;
}

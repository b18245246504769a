use Rattle.std.proofs.Common.{◌++◌, ap, ◌∙◌}
use Rattle.app_trace.proofs.running.trace.Goals as goal

pub returns : goal.returns
returns g c = record {
  lines = c.in_ok-run.run'.text.items;
  run = c.in_ok-run.ensures;
  schedule = c.in_ok-end.end.items;
  unless = c.in_ok-end.ensures;
  whole =
      c.in_ok-extend_from_slice-2.ensures.items
      ∙ ap (λ xs. c.extend_from_slice.new.self.items ++ xs) c.as_slice-2.ensures.value
      ∙ ap (λ xs. xs ++ c.in_ok-end.end.items)
      (c.in_ok-extend_from_slice.ensures.items
      ∙ ap (λ xs. c.in_ok-text.text.items ++ xs) c.as_slice.ensures.value
      ∙ ap (λ xs. xs ++ c.in_ok-run.run'.text.items) c.in_ok-text.ensures);
}

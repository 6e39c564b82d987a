use Rattle.std.proofs.Common.{ℕ, ◌/◌, ◌%◌, ap, ◌∙◌, ◌++◌, pos}
use Rattle.cloud_events.specs.Clock.{clock_text, date_text}
use Rattle.cloud_events.proofs.clock.time_text.Goals as goal

pub returns : goal.returns
returns c = record {
  day = c.day_of-day.result;
  number = c.day_of-day.ensures ∙ ap (λ (n : ℕ). pos (n / 86400000)) c.ms-ms.ensures.same;
  spelled = c.in_ok-push_clock.ensures ∙ ap (λ t. t ++ clock_text (c.ms-ms.result % 86400000 / 1000)) (c.in_ok-push_date.ensures ∙ ap (λ t. t ++ date_text c.day_of-day.result) c.new-text.ensures)
      ∙ ap (λ (n : ℕ). date_text c.day_of-day.result ++ clock_text (n % 86400000 / 1000)) c.ms-ms.ensures.same;
  utf8 = c.as_str-utf8.ensures.utf8;
}

use Rattle.std.proofs.Common.{◌≡◌, ◌∷◌, ◌++◌, [], ℕ, List, Result, Err, inr, ap, ◌∙◌, subst}
use Rattle.disk_journal.specs.Image.{end_of}
use Rattle.disk_journal.specs.Opening.{body_of, HasGiven, GivesNext}
use Rattle.disk_journal.specs.declared.error.JournalErr.TheVariants.{NotAJournal}
use Rattle.keeper_journal.specs.Following.{Follows, SaysNoneAfter}
use Rattle.keeper_journal.specs.History.{Say, IsRefusedAt}
use Rattle.keeper_journal.specs.declared.decoding.BodyErr.{BodyErr}
use Rattle.keeper_journal.proofs.Histories.{replayed_more, is_faulty, faulty_says_none}
use Rattle.keeper_journal.proofs.replaying.follow_next.Goals as goal

abbrev with_error : BodyErr → Result (Unit {0}) BodyErr
with_error e = Err e

pub returns-in-Err-clause-refused_only : goal.returns-in-Err-clause-refused_only
returns-in-Err-clause-refused_only g c first so_far at is bytes told commits history =
    let same : c.in-Err.error ≡ NotAJournal at = cc is in
    c.in-Err.ensures.refused_only first so_far.bodies so_far.given at (ap Err same) bytes told history.bodies history.image

pub returns-in-Ok-clause-follows : goal.returns-in-Ok-clause-follows
returns-in-Ok-clause-follows g c first so_far = record {
  bodies = so_far.bodies ++ body_of c.advance.new.self ∷ [];
  given = subst (GivesNext g.D.Disk first c.advance.new.self so_far.bodies) c.in-Ok-true.field-0-test (c.in-Ok-true.ensures.gives first so_far.bodies so_far.given);
  replayed = replayed_more so_far.bodies (body_of c.advance.new.self) c.args.replay.now c.follow.new.self so_far.replayed (subst (λ (b : List ℕ). Follows b c.args.replay.now c.follow.new.self) c.body.ensures c.in-Ok.ensures.followed);
}

pub returns-in-Ok-pass_rest-clause-refused : goal.returns-in-Ok-pass_rest-clause-refused
returns-in-Ok-pass_rest-clause-refused g c first so_far at is bytes told =
    let body = body_of c.advance.new.self in
    let given : HasGiven g.D.Disk first c.advance.new.self (so_far.bodies ++ body ∷ []) = subst (GivesNext g.D.Disk first c.advance.new.self so_far.bodies) c.in-Ok-true.field-0-test (c.in-Ok-true.ensures.gives first so_far.bodies so_far.given) in
    let all = c.in-Ok-pass_rest.ensures.all first (so_far.bodies ++ body ∷ []) given in
    let gate : c.gate-at.result ≡ end_of so_far.bodies = c.gate-at.ensures ∙ so_far.given.gate in
    let none = subst (λ (b : List ℕ). SaysNoneAfter c.args.replay.now.next b) c.body.ensures (c.in-Err-NotABody.ensures.none (ap with_error c.in-Err-NotABody.field-0-is)) in
    let faulty = is_faulty so_far.bodies all.0 body c.args.replay.now c.gate-at.result so_far.replayed none gate in
    let same : c.gate-at.result ≡ at = cc is in
    subst (IsRefusedAt bytes) same (inr (record { bodies = (so_far.bodies ++ body ∷ []) ++ all.0; image = all.1.image bytes told; faulty = faulty }))

pub returns-in-Ok-pass_rest-clause-refused_only : goal.returns-in-Ok-pass_rest-clause-refused_only
returns-in-Ok-pass_rest-clause-refused_only g c first so_far at is bytes told commits history =
    let body = body_of c.advance.new.self in
    let given : HasGiven g.D.Disk first c.advance.new.self (so_far.bodies ++ body ∷ []) = subst (GivesNext g.D.Disk first c.advance.new.self so_far.bodies) c.in-Ok-true.field-0-test (c.in-Ok-true.ensures.gives first so_far.bodies so_far.given) in
    let all = c.in-Ok-pass_rest.ensures.all first (so_far.bodies ++ body ∷ []) given in
    let gate : c.gate-at.result ≡ end_of so_far.bodies = c.gate-at.ensures ∙ so_far.given.gate in
    let none = subst (λ (b : List ℕ). SaysNoneAfter c.args.replay.now.next b) c.body.ensures (c.in-Err-NotABody.ensures.none (ap with_error c.in-Err-NotABody.field-0-is)) in
    let faulty = is_faulty so_far.bodies all.0 body c.args.replay.now c.gate-at.result so_far.replayed none gate in
    let says : Say ((so_far.bodies ++ body ∷ []) ++ all.0) commits = subst (λ (b : List (List ℕ)). Say b commits) (all.1.only bytes told history.bodies history.image) history.say in
    faulty_says_none ((so_far.bodies ++ body ∷ []) ++ all.0) c.gate-at.result commits faulty says

pub returns-in-Err-pass_rest-clause-refused_only : goal.returns-in-Err-pass_rest-clause-refused_only
returns-in-Err-pass_rest-clause-refused_only g c first so_far at is bytes told commits history =
    let body = body_of c.advance.new.self in
    let given : HasGiven g.D.Disk first c.advance.new.self (so_far.bodies ++ body ∷ []) = subst (GivesNext g.D.Disk first c.advance.new.self so_far.bodies) c.in-Ok-true.field-0-test (c.in-Ok-true.ensures.gives first so_far.bodies so_far.given) in
    let same : c.in-Err-pass_rest.error ≡ NotAJournal at = cc is in
    c.in-Err-pass_rest.ensures.refused_only first (so_far.bodies ++ body ∷ []) given at (ap Err same) bytes told history.bodies history.image

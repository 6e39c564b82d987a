use Rattle.std.proofs.Common.{◌≡◌, ◌⊎◌, ◌-◌, length, take, drop, sym, ap, ◌∙◌, subst}
use Rattle.disk_journal.specs.Refusal.{IsTooShort, HasOtherHeader, IsNoJournal}
use Rattle.disk_journal.specs.Window.{disk_of, place_of, held_of}
use Rattle.disk_journal.proofs.Headers.{no_header, has_header}
use Rattle.disk_journal.proofs.holding.pass_header.Goals as goal

pub returns-in-Some-clause-refused : goal.returns-in-Some-clause-refused
returns-in-Some-clause-refused g c at is bytes told =
    let window = c.hold.new.self in
    let held = c.in_ok-hold.ensures in
    let now = held.same.contents ∙ told in
    let zero : place_of window ≡ 0 = held.place ∙ c.requires in
    let n = length window.buffer.items - window.start in
    let place : c.in-Some.at ≡ at = cc is in
    subst (IsNoJournal bytes) place
    (no_header (held_of window) bytes n (window.shows bytes now ∙ ap (λ k. take n (drop k bytes)) zero) c.in-Some.at (place_of window) (g.D.Disk.size (disk_of window)) zero (g.met.D.Disk.as_long (disk_of window) bytes now) held.enough
    (subst (λ z. IsTooShort z c.in-Some.at ⊎ HasOtherHeader z c.in-Some.at) c.held.ensures c.in-Some.ensures.some))

pub returns-in-None-clause-begins : goal.returns-in-None-clause-begins
returns-in-None-clause-begins g c bytes told =
    let window = c.hold.new.self in
    let held = c.in_ok-hold.ensures in
    let now = held.same.contents ∙ told in
    let zero : place_of window ≡ 0 = held.place ∙ c.requires in
    let n = length window.buffer.items - window.start in
    has_header (held_of window) bytes n (window.shows bytes now ∙ ap (λ k. take n (drop k bytes)) zero) (ap (take 16) (sym c.held.ensures) ∙ c.in-None.ensures.none)

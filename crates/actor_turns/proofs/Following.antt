-- The turns of one actor, one after the other.
use Rattle.std.proofs.Common.{◌≡◌, ◌<◌, ◌≤◌, ◌+◌, ◌==◌, ◌⊎◌, inl, inr, ℕ, suc, Bool, true, false, cond, not, List, [], ◌∷◌, ◌++◌, All, if◌then◌else◌, bytes_eq, filter, length, map, nat_lt, Option, Some, None, arith, refl, sym, ap, subst, ◌∙◌, fold, append-nil, append_assoc}
use Rattle.std.proofs.lemmas.Bool.{cases_Bool, cases_lt, cases_order, cond-true, cond-false}
use Rattle.std.proofs.lemmas.Bool.Decides.{nat_tests}
use Rattle.std.proofs.lemmas.List.Sums.{fold-append}
use Rattle.std.proofs.lemmas.List.Elements.{All-cons, All-head, All-tail}
use Rattle.std.specs.Cmp.Lexicographic.{bytes_decides}
use Rattle.turn_cell.specs.declared.entry.Entry.{Entry}
use Rattle.actor_turns.specs.declared.command.TurnsCmd.{TurnsCmd}
use Rattle.actor_turns.specs.declared.command.TurnsCmd.TheVariants.{Join, Look, Leave}
use Rattle.actor_turns.specs.declared.command.TurnsReply.{TurnsReply}
use Rattle.actor_turns.specs.declared.command.TurnsReply.TheVariants.{Joined, Full, NoMemory, Yours, Behind, Left, NotOpen}
use Rattle.actor_turns.specs.Course.{Step, Open, IsStep, Answers, LookAnswers, LeaveAnswers, actor_of, tickets_of, open_after, given_after, open_in, given_in, ahead_of}
use Rattle.actor_turns.specs.Lines.{before}
use Rattle.actor_turns.specs.Kept.{AreNumbered, times}
use Rattle.actor_turns.specs.Laws.{IsLeft, IsYours, IsFirst, TurnsLast, Follows, TurnsFollow}
use Rattle.actor_turns.proofs.Lists.{actor_more, actor_less, all_but}
use Rattle.actor_turns.proofs.Coming.{numbered_more, numbered_less, same_number}

-- ---- what an answer is of

data Kind (held : List Open) (given : ℕ) (cmd : TurnsCmd) (reply : TurnsReply) : Type 0 where
  comes : (actor : List ℕ) → open_after held cmd reply ≡ held ++ record { ticket = given + 1; actor = actor } ∷ [] → given_after given reply ≡ given + 1 → Kind held given cmd reply
  goes : (ticket : ℕ) → cmd ≡ Leave ticket → reply ≡ Left → open_after held cmd reply ≡ all_but ticket held → given_after given reply ≡ given → Kind held given cmd reply
  rests : open_after held cmd reply ≡ held → given_after given reply ≡ given → Kind held given cmd reply

no_join : (b : Bool) (ahead ticket : ℕ) → Joined ticket ≡ cond b Yours (Behind ahead) → ⊥
no_join true ahead ticket e = let bad : ⊥ = cc in bad
no_join false ahead ticket e = let bad : ⊥ = cc in bad

look_gives_none : (found : Option (List ℕ)) (ticket : ℕ) (held : List Open) (given : ℕ) → LookAnswers found ticket held (Joined given) → ⊥
look_gives_none None ticket held given e = let bad : ⊥ = cc in bad
look_gives_none (Some actor) ticket held given e = no_join (ahead_of ticket actor held == 0) (ahead_of ticket actor held) given e

leave_gives_none : (found : Option (List ℕ)) (given : ℕ) → LeaveAnswers found (Joined given) → ⊥
leave_gives_none None given e = let bad : ⊥ = cc in bad
leave_gives_none (Some actor) given e = let bad : ⊥ = cc in bad

kind_of : (held : List Open) (given : ℕ) (cmd : TurnsCmd) (reply : TurnsReply) → Answers held given cmd reply → Kind held given cmd reply
kind_of held given (Join actor) (Joined ticket) answers = comes actor (ap (λ n. held ++ record { ticket = n; actor = actor } ∷ []) answers.1) answers.1
kind_of held given (Join actor) (Full waiting) answers = rests refl refl
kind_of held given (Join actor) NoMemory answers = rests refl refl
kind_of held given (Join actor) Yours answers = rests refl refl
kind_of held given (Join actor) (Behind ahead) answers = rests refl refl
kind_of held given (Join actor) Left answers = rests refl refl
kind_of held given (Join actor) NotOpen answers = rests refl refl
kind_of held given (Look ticket) (Joined other) answers = absurd (look_gives_none (actor_of ticket held) ticket held other answers)
kind_of held given (Look ticket) (Full waiting) answers = rests refl refl
kind_of held given (Look ticket) NoMemory answers = rests refl refl
kind_of held given (Look ticket) Yours answers = rests refl refl
kind_of held given (Look ticket) (Behind ahead) answers = rests refl refl
kind_of held given (Look ticket) Left answers = rests refl refl
kind_of held given (Look ticket) NotOpen answers = rests refl refl
kind_of held given (Leave ticket) (Joined other) answers = absurd (leave_gives_none (actor_of ticket held) other answers)
kind_of held given (Leave ticket) (Full waiting) answers = rests refl refl
kind_of held given (Leave ticket) NoMemory answers = rests refl refl
kind_of held given (Leave ticket) Yours answers = rests refl refl
kind_of held given (Leave ticket) (Behind ahead) answers = rests refl refl
kind_of held given (Leave ticket) Left answers = goes ticket refl refl refl refl
kind_of held given (Leave ticket) NotOpen answers = rests refl refl

-- ---- what holds after every history

numbered_after : (held : List Open) (given : ℕ) (cmd : TurnsCmd) (reply : TurnsReply) → Kind held given cmd reply → AreNumbered held given → AreNumbered (open_after held cmd reply) (given_after given reply)
numbered_after held given cmd reply (comes actor is last) numbered = subst (λ h. AreNumbered h (given_after given reply)) (sym is) (subst (AreNumbered _) (sym last) (numbered_more held given actor numbered))
numbered_after held given cmd reply (goes ticket asked told is last) numbered = subst (λ h. AreNumbered h (given_after given reply)) (sym is) (subst (AreNumbered _) (sym last) (numbered_less held given ticket numbered))
numbered_after held given cmd reply (rests is last) numbered = subst (λ h. AreNumbered h (given_after given reply)) (sym is) (subst (AreNumbered _) (sym last) numbered)

-- no open ticket of the actor is less than this one, and none will be
record IsLow (held : List Open) (given ticket : ℕ) (actor : List ℕ) : Type 0 where
  pub least : (other : ℕ) → actor_of other held ≡ Some actor → ticket ≤ other
  pub before_next : ticket ≤ given
  pub numbered : AreNumbered held given

one_way : (b : Bool) (named found : Option (List ℕ)) (ticket other : ℕ) (actor : List ℕ) → cond b named found ≡ Some actor → (b ≡ true → ticket ≤ other) → (found ≡ Some actor → ticket ≤ other) → ticket ≤ other
one_way true named found ticket other actor is this rest = this refl
one_way false named found ticket other actor is this rest = rest is

out_way : (b : Bool) (found : Option (List ℕ)) (actor : List ℕ) → cond b None found ≡ Some actor → found ≡ Some actor
out_way true found actor is = absurd (let bad : ⊥ = cc in bad)
out_way false found actor is = is

low_after : (held : List Open) (given ticket : ℕ) (actor : List ℕ) (cmd : TurnsCmd) (reply : TurnsReply) → Kind held given cmd reply → IsLow held given ticket actor → IsLow (open_after held cmd reply) (given_after given reply) ticket actor
low_after held given ticket actor cmd reply (comes other_actor is last) low = record {
  least = λ other found.
      one_way (given + 1 == other) (Some other_actor) (actor_of other held) ticket other actor
      (sym (actor_more held (given + 1) other_actor other (low.numbered.up_to (given + 1) (omega arith))) ∙ ap (actor_of other) (sym is) ∙ found)
      (λ same. let e = same_number (given + 1) other same in let early = low.before_next in omega (arith, e, early)) (low.least other);
  before_next = let early = low.before_next in omega (arith, early, last);
  numbered = numbered_after held given cmd reply (comes other_actor is last) low.numbered;
}
low_after held given ticket actor cmd reply (goes gone asked told is last) low = record {
  least = λ other found. low.least other (out_way (gone == other) (actor_of other held) actor (sym (actor_less held gone other) ∙ ap (actor_of other) (sym is) ∙ found));
  before_next = let early = low.before_next in omega (arith, early, last);
  numbered = numbered_after held given cmd reply (goes gone asked told is last) low.numbered;
}
low_after held given ticket actor cmd reply (rests is last) low = record {
  least = λ other found. low.least other (ap (actor_of other) (sym is) ∙ found);
  before_next = let early = low.before_next in omega (arith, early, last);
  numbered = numbered_after held given cmd reply (rests is last) low.numbered;
}

stays_more : (b : Bool) (named found : Option (List ℕ)) → (b ≡ true → ⊥) → cond b named found ≡ found
stays_more true named found never = absurd (never refl)
stays_more false named found never = refl

open_stays : (held : List Open) (given ticket : ℕ) (actor : List ℕ) (cmd : TurnsCmd) (reply : TurnsReply) → Kind held given cmd reply → IsLow held given ticket actor → ((cmd ≡ Leave ticket) × (reply ≡ Left) → ⊥)
    → actor_of ticket held ≡ Some actor → actor_of ticket (open_after held cmd reply) ≡ Some actor
open_stays held given ticket actor cmd reply (comes other is last) low stays found =
    ap (actor_of ticket) is ∙ actor_more held (given + 1) other ticket (low.numbered.up_to (given + 1) (omega arith))
    ∙ stays_more (given + 1 == ticket) (Some other) (actor_of ticket held) (λ same. let e = same_number (given + 1) ticket same in let early = low.before_next in absurd (omega (arith, e, early))) ∙ found
open_stays held given ticket actor cmd reply (goes gone asked told is last) low stays found =
    ap (actor_of ticket) is ∙ actor_less held gone ticket ∙ stays_more (gone == ticket) None (actor_of ticket held) (λ same. stays (asked ∙ ap Leave (same_number gone ticket same), told)) ∙ found
open_stays held given ticket actor cmd reply (rests is last) low stays found = ap (actor_of ticket) is ∙ found

-- ---- a look that says that it is the ticket's turn

yours_is : (b : Bool) (ahead : ℕ) → Yours ≡ cond b Yours (Behind ahead) → b ≡ true
yours_is true ahead e = refl
yours_is false ahead e = absurd (let bad : ⊥ = cc in bad)

none_ahead : (found : Option (List ℕ)) (ticket : ℕ) (held : List Open) (actor : List ℕ) → found ≡ Some actor → LookAnswers found ticket held Yours → ahead_of ticket actor held ≡ 0
none_ahead None ticket held actor is answers = absurd (let bad : ⊥ = cc in bad)
none_ahead (Some other) ticket held actor is answers =
    subst (λ a. ahead_of ticket a held ≡ 0) (let same : other ≡ actor = cc in same) (same_number _ 0 (yours_is (ahead_of ticket other held == 0) (ahead_of ticket other held) answers))

some_same : {x y : List ℕ} → Some x ≡ Some y → x ≡ y
some_same e = cc

is_less : (n m : ℕ) → n < m → nat_lt n m ≡ true
is_less n m less = grind (arith, nat_tests)

some_ahead : (held : List Open) (ticket other : ℕ) (actor : List ℕ) → actor_of other held ≡ Some actor → other < ticket → 1 ≤ ahead_of ticket actor held
some_ahead [] ticket other actor is less = absurd (let bad : ⊥ = cc in bad)
some_ahead (first ∷ held) ticket other actor is less = elim (cases_Bool (first.ticket == other)) [
  | inl is_so ↦
      let mine : first.actor ≡ actor = some_same (sym (cond-true _ (Some first.actor) (actor_of other held) is_so) ∙ is) in
      let lower : nat_lt first.ticket ticket ≡ true = (let e = same_number first.ticket other is_so in is_less first.ticket ticket (omega (arith, e, less))) in
      rw ((bytes_decides first.actor actor).1 mine) (rw (lower) (omega arith))
  | inr differs ↦
      let rest = some_ahead held ticket other actor (sym (cond-false _ (Some first.actor) (actor_of other held) differs) ∙ is) less in
      elim (cases_Bool (bytes_eq first.actor actor)) [
        | inl mine ↦
            elim (cases_Bool (nat_lt first.ticket ticket)) [
              | inl lower ↦ rw (mine) (rw (lower) (omega (arith, rest)))
              | inr higher ↦ rw (mine) (rw (higher) rest)
            ]
        | inr off ↦ rw (off) rest
      ]
]

least_of : (held : List Open) (ticket : ℕ) (actor : List ℕ) → ahead_of ticket actor held ≡ 0 → (other : ℕ) → actor_of other held ≡ Some actor → ticket ≤ other
least_of held ticket actor none other is = elim (cases_lt other ticket) [
  | inl less ↦ let one = some_ahead held ticket other actor is less in absurd (omega (arith, one, none))
  | inr more ↦ omega (arith, more)
]

-- ---- a whole history

not_both : (actor : List ℕ) → Some actor ≡ None → ⊥
not_both actor e = let bad : ⊥ = cc in bad

other_command : (ticket : ℕ) (cmd : TurnsCmd) → cmd ≡ Look ticket → cmd ≡ Leave ticket → ⊥
other_command ticket cmd looks leaves = let bad : ⊥ = cc in bad

open_more : (history : List Step) (entry : Step) → open_in (history ++ entry ∷ []) ≡ open_after (open_in history) entry.cmd entry.reply
open_more history entry = fold-append (λ held (e : Step). open_after held e.cmd e.reply) [] history (entry ∷ [])

given_more : (history : List Step) (entry : Step) → given_in (history ++ entry ∷ []) ≡ given_after (given_in history) entry.reply
given_more history entry = fold-append (λ given (e : Step). given_after given e.reply) 0 history (entry ∷ [])

module _ (history : List Step) (steps : (earlier later : List Step) (entry : Step) → history ≡ earlier ++ entry ∷ later → IsStep earlier entry) where
  kind_at : (earlier later : List Step) (entry : Step) → history ≡ earlier ++ entry ∷ later → Kind (open_in earlier) (given_in earlier) entry.cmd entry.reply
  kind_at earlier later entry whole = kind_of (open_in earlier) (given_in earlier) entry.cmd entry.reply (steps earlier later entry whole).reply

  numbered_to : (done rest tail : List Step) → history ≡ done ++ rest ++ tail → AreNumbered (open_in done) (given_in done) → AreNumbered (open_in (done ++ rest)) (given_in (done ++ rest))
  numbered_to done [] tail whole numbered = subst (λ h. AreNumbered (open_in h) (given_in h)) (sym (append-nil done)) numbered
  numbered_to done (entry ∷ rest) tail whole numbered =
      let kind = kind_at done (rest ++ tail) entry (whole ∙ append_assoc done (entry ∷ rest) tail) in
      let again : (done ++ entry ∷ []) ++ rest ≡ done ++ entry ∷ rest = append_assoc done (entry ∷ []) rest in
      let more = numbered_after (open_in done) (given_in done) entry.cmd entry.reply kind numbered in
      let next = subst (λ h. AreNumbered h (given_in (done ++ entry ∷ []))) (sym (open_more done entry)) (subst (AreNumbered _) (sym (given_more done entry)) more) in
      subst (λ h. AreNumbered (open_in h) (given_in h)) again (numbered_to (done ++ entry ∷ []) rest tail (whole ∙ ap (λ l. l ++ tail) (sym again)) next)

  low_to : (ticket : ℕ) (actor : List ℕ) (done rest tail : List Step) → history ≡ done ++ rest ++ tail → IsLow (open_in done) (given_in done) ticket actor → IsLow (open_in (done ++ rest)) (given_in (done ++ rest)) ticket actor
  low_to ticket actor done [] tail whole low = subst (λ h. IsLow (open_in h) (given_in h) ticket actor) (sym (append-nil done)) low
  low_to ticket actor done (entry ∷ rest) tail whole low =
      let kind = kind_at done (rest ++ tail) entry (whole ∙ append_assoc done (entry ∷ rest) tail) in
      let again : (done ++ entry ∷ []) ++ rest ≡ done ++ entry ∷ rest = append_assoc done (entry ∷ []) rest in
      let more = low_after (open_in done) (given_in done) ticket actor entry.cmd entry.reply kind low in
      let next = subst (λ h. IsLow h (given_in (done ++ entry ∷ [])) ticket actor) (sym (open_more done entry)) (subst (λ g. IsLow (open_after (open_in done) entry.cmd entry.reply) g ticket actor) (sym (given_more done entry)) more) in
      subst (λ h. IsLow (open_in h) (given_in h) ticket actor) again (low_to ticket actor (done ++ entry ∷ []) rest tail (whole ∙ ap (λ l. l ++ tail) (sym again)) next)

  open_to : (ticket : ℕ) (actor : List ℕ) (done rest tail : List Step) → history ≡ done ++ rest ++ tail → IsLow (open_in done) (given_in done) ticket actor → All (λ other. ¬ IsLeft ticket other) rest
      → actor_of ticket (open_in done) ≡ Some actor → actor_of ticket (open_in (done ++ rest)) ≡ Some actor
  open_to ticket actor done [] tail whole low stays found = ap (λ h. actor_of ticket (open_in h)) (append-nil done) ∙ found
  open_to ticket actor done (entry ∷ rest) tail whole low stays found =
      let kind = kind_at done (rest ++ tail) entry (whole ∙ append_assoc done (entry ∷ rest) tail) in
      let again : (done ++ entry ∷ []) ++ rest ≡ done ++ entry ∷ rest = append_assoc done (entry ∷ []) rest in
      let more = low_after (open_in done) (given_in done) ticket actor entry.cmd entry.reply kind low in
      let next = subst (λ h. IsLow h (given_in (done ++ entry ∷ [])) ticket actor) (sym (open_more done entry)) (subst (λ g. IsLow (open_after (open_in done) entry.cmd entry.reply) g ticket actor) (sym (given_more done entry)) more) in
      let there = ap (actor_of ticket) (open_more done entry) ∙ open_stays (open_in done) (given_in done) ticket actor entry.cmd entry.reply kind low (All-head (λ other. ¬ IsLeft ticket other) entry rest stays) found in
      ap (λ h. actor_of ticket (open_in h)) (sym again) ∙ open_to ticket actor (done ++ entry ∷ []) rest tail (whole ∙ ap (λ l. l ++ tail) (sym again)) next (All-tail (λ other. ¬ IsLeft ticket other) entry rest stays) there

  none_at_first : AreNumbered (open_in []) (given_in [])
  none_at_first = record { once = λ ticket. refl; up_to = λ ticket later. refl }

  -- it is the ticket's turn
  yours_low : (earlier later : List Step) (entry : Step) (ticket : ℕ) (actor : List ℕ) → history ≡ earlier ++ entry ∷ later → IsYours ticket entry → actor_of ticket (open_in earlier) ≡ Some actor
      → IsLow (open_in earlier) (given_in earlier) ticket actor
  yours_low earlier later entry ticket actor whole yours found =
      let numbered = numbered_to [] earlier (entry ∷ later) whole none_at_first in
      let answers = subst (λ cmd. Answers (open_in earlier) (given_in earlier) cmd entry.reply) yours.0 (steps earlier later entry whole).reply in
      let told = subst (λ reply. Answers (open_in earlier) (given_in earlier) (Look ticket) reply) yours.1 answers in
      record {
        least = least_of (open_in earlier) ticket actor (none_ahead (actor_of ticket (open_in earlier)) ticket (open_in earlier) actor found told);
        before_next = elim (cases_lt (given_in earlier) ticket) [
          | inl later ↦ absurd (let none = numbered.up_to ticket later in let bad : ⊥ = not_both actor (sym found ∙ none) in bad)
          | inr early ↦ omega (arith, early)
        ];
        numbered = numbered;
      }

  pub lasts : TurnsLast history
  lasts earlier later entry ticket actor whole yours found stays =
      let low = yours_low earlier later entry ticket actor whole yours found in
      let kind = kind_at earlier later entry whole in
      let never : (entry.cmd ≡ Leave ticket) × (entry.reply ≡ Left) → ⊥ = λ left. other_command ticket entry.cmd yours.0 left.0 in
      let all = All-cons (λ other. ¬ IsLeft ticket other) entry later never stays in
      record {
        is_open = ap (λ h. actor_of ticket (open_in h)) whole ∙ open_to ticket actor earlier (entry ∷ later) [] (whole ∙ ap (λ l. earlier ++ l) (sym (append-nil (entry ∷ later))) ∙ sym (append_assoc earlier (entry ∷ later) [])) low all found;
        least = subst (λ h. (other : ℕ) → actor_of other (open_in h) ≡ Some actor → ticket ≤ other) (sym whole)
            (low_to ticket actor earlier (entry ∷ later) [] (whole ∙ ap (λ l. earlier ++ l) (sym (append-nil (entry ∷ later))) ∙ sym (append_assoc earlier (entry ∷ later) [])) low).least;
      }

  pub follow : TurnsFollow history
  follow earlier between later entry next ticket other actor whole yours other_yours found other_found differ =
      let opened : history ≡ earlier ++ entry ∷ (between ++ next ∷ later) = whole ∙ append_assoc earlier (entry ∷ between) (next ∷ later) in
      let low = yours_low earlier (between ++ next ∷ later) entry ticket actor opened yours found in
      let then_low = low_to ticket actor earlier (entry ∷ between) (next ∷ later) whole low in
      let up = then_low.least other other_found in
      let other_low = yours_low (earlier ++ entry ∷ between) later next other actor whole other_yours other_found in
      let never : (entry.cmd ≡ Leave ticket) × (entry.reply ≡ Left) → ⊥ = λ left. other_command ticket entry.cmd yours.0 left.0 in
      record {
        order = elim (cases_order ticket other) [
          | inl same ↦ absurd (differ same)
          | inr (inl less) ↦ less
          | inr (inr more) ↦ absurd (omega (arith, more, up))
        ];
        left = λ all.
            let there = open_to ticket actor earlier (entry ∷ between) (next ∷ later) whole low (All-cons (λ one. ¬ IsLeft ticket one) entry between never all) found in
            let down = other_low.least ticket there in
            differ (omega (arith, up, down));
      }

-- The kept values as lists.
use Rattle.std.proofs.Common.{◌≡◌, ℕ, suc, ◌+◌, List, [], ◌∷◌, ◌++◌, length, set, get_or, Some, refl, sym, ap, ◌∙◌, arith, append_assoc, append-nil, length-append}
use Rattle.json_text.specs.declared.spot.Spot.{Spot}
use Rattle.json_text.specs.declared.spot.Entry.{Entry}
use Rattle.json_text.specs.declared.part.Opening.{Opening}
use Rattle.json_text.specs.Forest.{Forest, empty, grows, one, append, count}
use Rattle.json_text.specs.Grammar.{bracket_kind}
use Rattle.json_text.specs.Progress.{Frame, spot, closed_in, level_of}
use Rattle.json_text.specs.Reading.{entries, opened, open_entries, openings, innermost}

pub length-entries : (depth : ℕ) (values : Forest) → length (entries depth values) ≡ count values
unfolding entries
length-entries depth empty = refl
length-entries depth (grows s children later) = omega (arith, length-append (entries (suc depth) children) (entries depth later), length-entries (suc depth) children, length-entries depth later)

pub entries-append : (depth : ℕ) (a b : Forest) → entries depth (append a b) ≡ entries depth a ++ entries depth b
unfolding entries
entries-append depth empty b = refl
entries-append depth (grows s children later) b =
    ap (λ l. record { spot = s; depth = depth; size = 1 + count children } ∷ (entries (suc depth) children ++ l)) (entries-append depth later b)
    ∙ ap (λ l. record { spot = s; depth = depth; size = 1 + count children } ∷ l) (sym (append_assoc (entries (suc depth) children) (entries depth later) (entries depth b)))

pub open_entries-append : (frames : List Frame) (values more : Forest) → open_entries frames (append values more) ≡ open_entries frames values ++ entries (length frames) more
unfolding open_entries
open_entries-append [] values more = entries-append 0 values more
open_entries-append (frame ∷ outer) values more =
    ap (λ l. open_entries outer frame.outer ++ (opened frame (length outer) ∷ l)) (entries-append (suc (length outer)) values more)
    ∙ sym (append_assoc (open_entries outer frame.outer) (opened frame (length outer) ∷ entries (suc (length outer)) values) (entries (suc (length outer)) more))

pub length-openings : (frames : List Frame) → length (openings frames) ≡ length frames
unfolding openings
length-openings [] = refl
length-openings (frame ∷ outer) = omega (arith, length-append (openings outer) (record { bracket = frame.bracket; node = length (open_entries outer frame.outer) } ∷ []), length-openings outer)

innermost-append : (xs : List Opening) (o : Opening) → innermost (xs ++ o ∷ []) ≡ Some o.bracket
innermost-append [] o = refl
innermost-append (x ∷ []) o = refl
innermost-append (x ∷ y ∷ xs) o = innermost-append (y ∷ xs) o

pub innermost-openings : (frames : List Frame) → innermost (openings frames) ≡ level_of frames
unfolding openings
innermost-openings [] = refl
innermost-openings (frame ∷ outer) = innermost-append (openings outer) (record { bracket = frame.bracket; node = length (open_entries outer frame.outer) })

-- the last of a list, and what is before it
pub last_is : (xs ys : List Opening) (x y : Opening) → xs ++ x ∷ [] ≡ ys ++ y ∷ [] → (xs ≡ ys) × (x ≡ y)
last_is [] [] x y e = ((refl), (let head : x ≡ y = cc in head))
last_is [] (b ∷ []) x y e = absurd (omega (arith, ap length e))
last_is [] (b ∷ c ∷ ys) x y e = absurd (omega (arith, ap length e))
last_is (a ∷ []) [] x y e = absurd (omega (arith, ap length e))
last_is (a ∷ c ∷ xs) [] x y e = absurd (omega (arith, ap length e))
last_is (a ∷ xs) (b ∷ ys) x y e =
    let head : a ≡ b = cc in
    let rest : xs ++ x ∷ [] ≡ ys ++ y ∷ [] = cc in
    let both = last_is xs ys x y rest in
    (ap (λ h. h ∷ xs) head ∙ ap (λ t. b ∷ t) both.0, both.1)

pub set_seam : (xs zs : List Entry) (y new : Entry) → set (xs ++ y ∷ zs) (length xs) new ≡ xs ++ new ∷ zs
set_seam [] zs y new = refl
set_seam (x ∷ xs) zs y new = ap (λ l. x ∷ l) (set_seam xs zs y new)

pub get_seam : (xs zs : List Entry) (y d : Entry) → get_or (xs ++ y ∷ zs) (length xs) d ≡ y
get_seam [] zs y d = refl
get_seam (x ∷ xs) zs y d = get_seam xs zs y d

leaf : (d : ℕ) (s : Spot) → entries d (one s empty) ≡ record { spot = s; depth = d; size = 1 } ∷ []
unfolding entries
leaf d s = refl

alone : (d : ℕ) (s : Spot) (values : Forest) → entries d (one s values) ≡ record { spot = s; depth = d; size = 1 + count values } ∷ entries (suc d) values
unfolding entries
alone d s values = ap (λ l. record { spot = s; depth = d; size = 1 + count values } ∷ l) (append-nil (entries (suc d) values))

-- one more value without parts
pub one_more : (frames : List Frame) (values : Forest) (s : Spot) → open_entries frames values ++ record { spot = s; depth = length frames; size = 1 } ∷ [] ≡ open_entries frames (append values (one s empty))
one_more frames values s = sym (open_entries-append frames values (one s empty) ∙ ap (λ l. open_entries frames values ++ l) (leaf (length frames) s))

-- the innermost list or map gets its end
pub closed_entries : (frame : Frame) (outer : List Frame) (values : Forest) (end : ℕ) → open_entries outer frame.outer ++ (record { spot = spot (bracket_kind frame.bracket) frame.place end frame.name; depth = length outer; size = 1 + count values } ∷ entries (suc (length outer)) values) ≡ open_entries outer (closed_in frame values end)
closed_entries frame outer values end = sym (open_entries-append outer frame.outer (one (spot (bracket_kind frame.bracket) frame.place end frame.name) values) ∙ ap (λ l. open_entries outer frame.outer ++ l) (alone (length outer) (spot (bracket_kind frame.bracket) frame.place end frame.name) values))

pub opened_are : (frame : Frame) (frames : List Frame) → open_entries frames frame.outer ++ opened frame (length frames) ∷ [] ≡ open_entries (frame ∷ frames) empty
unfolding open_entries entries
opened_are frame frames = refl

pub opening_is : (frame : Frame) (frames : List Frame) → openings frames ++ record { bracket = frame.bracket; node = length (open_entries frames frame.outer) } ∷ [] ≡ openings (frame ∷ frames)
unfolding openings
opening_is frame frames = refl

pub inner_entries : (frame : Frame) (outer : List Frame) (values : Forest) → open_entries (frame ∷ outer) values ≡ open_entries outer frame.outer ++ (opened frame (length outer) ∷ entries (suc (length outer)) values)
unfolding open_entries
inner_entries frame outer values = refl

pub no_openings : (frames : List Frame) → openings frames ≡ [] → frames ≡ []
unfolding openings
no_openings [] e = refl
no_openings (frame ∷ outer) e = absurd (omega (arith, ap length e, length-append (openings outer) (record { bracket = frame.bracket; node = length (open_entries outer frame.outer) } ∷ [])))

pub root_entries : (values : Forest) → open_entries [] values ≡ entries 0 values
unfolding open_entries
root_entries values = refl

pub no_entries : [] ≡ open_entries [] empty
unfolding open_entries entries
no_entries = refl

pub no_openings_yet : [] ≡ openings []
unfolding openings
no_openings_yet = refl

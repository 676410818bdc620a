-- 01, The load buffer: what each call answers, for every buffer; a refused call changes nothing.
use Rattle.std.specs.Prelude.{ℕ, ◌+◌, ◌-◌, ◌<◌, ◌≡◌, Bool, false, cond, List, Result, Ok, Err, ◌++◌, map, eqb, set, take, drop, replicate}
use Rattle.refusal.specs.declared.Refusal.{Refusal}
use Rattle.refusal.specs.Numbers.{number_of, number}
use Rattle.spatial.specs.declared.Wrench.{Wrench}
use Rattle.spatial.specs.Wrenches.{wrench_sum}
use Rattle.loads.specs.declared.Load.{Load}
use Rattle.buffer.specs.declared.Stored.{Stored}
use Rattle.buffer.specs.declared.LoadBuffer.{LoadBuffer}
use Rattle.buffer.specs.declared.Listing.{Listing}
use Rattle.loads.specs.Checks.{or_else, accepted, links_checked, link_checked, wrench_checked, sum_checked, list_checked}
use Rattle.buffer.specs.Agree.{MAX, cleared, at, mark, tables}

-- a refusal number, 0 for none, and the buffer after the call
pub record Changed : Type 0 where
  pub number : ℕ
  pub buffer : LoadBuffer

-- a refusal number, and how many loads a buffer holds
pub record Counted : Type 0 where
  pub number : ℕ
  pub count : ℕ

-- a refusal number, and whether a buffer holds no load
pub record Emptiness : Type 0 where
  pub number : ℕ
  pub empty : Bool

-- a refusal number, and a buffer's loads in stored order
pub record Listed : Type 0 where
  pub number : ℕ
  pub count : ℕ
  pub loads : List Load

-- a call that changes a buffer: its number, and the next buffer unless it is refused
abbrev pub changed : ℕ → LoadBuffer → LoadBuffer → Changed
changed n b next = record { number = n; buffer = accepted n next b }

abbrev pub entry : ℕ → Wrench → Stored
entry l w = record { link = l; wrench = w }

-- a buffer and a link of which a load can be written or taken out
pub record Ready (b : LoadBuffer) (l : ℕ) : Type 0 where
  pub sound : tables b ≡ Ok tt
  pub known : l < b.links
  pub small : l < 64

-- no load, all marks empty, all places cleared
unfoldable pub empty_buffer : ℕ → ℕ → LoadBuffer
empty_buffer id links = record { id = id; links = links; count = 0; positions = replicate 64 MAX; loads = replicate 64 cleared }

-- "1: a new buffer's link count is not 1 to 64"; a refused one is of that link count too, so that every call on it answers 11
unfoldable pub new_of : ℕ → ℕ → Changed
new_of id links = record { number = number (links_checked links); buffer = empty_buffer id links }

-- "`set` replaces or appends"
abbrev pub append_of : LoadBuffer → ℕ → Wrench → LoadBuffer
append_of b l w =
    record {
      id = b.id;
      links = b.links;
      count = b.count + 1;
      positions = set b.positions l b.count;
      loads = set b.loads b.count (entry l w);
    }

abbrev pub replace_of : LoadBuffer → ℕ → Wrench → LoadBuffer
replace_of b l w =
    record {
      id = b.id;
      links = b.links;
      count = b.count;
      positions = b.positions;
      loads = set b.loads (mark b l) (entry l w);
    }

unfoldable pub put_of : LoadBuffer → ℕ → Wrench → LoadBuffer
put_of b l w = cond (eqb (mark b l) MAX) (append_of b l w) (replace_of b l w)

-- "Every call checks 11 first, then 6, 5, 7"
abbrev pub set_number : LoadBuffer → ℕ → ℕ → Wrench → ℕ
set_number b id l w = or_else (number (tables b)) (or_else (number (link_checked b.id b.links id l)) (number (wrench_checked w)))

unfoldable pub set_of : LoadBuffer → ℕ → ℕ → Wrench → Changed
set_of b id l w = changed (set_number b id l w) b (put_of b l w)

-- "`add` to an absent link stores the wrench itself"
unfoldable pub added_of : LoadBuffer → ℕ → Wrench → Wrench
added_of b l w = cond (eqb (mark b l) MAX) w (wrench_sum (at b (mark b l)).wrench w)

abbrev pub add_number : LoadBuffer → ℕ → ℕ → Wrench → ℕ
add_number b id l w = or_else (set_number b id l w) (number (sum_checked (added_of b l w)))

unfoldable pub add_of : LoadBuffer → ℕ → ℕ → Wrench → Changed
add_of b id l w = changed (add_number b id l w) b (put_of b l (added_of b l w))

-- "the last moves into the gap"; "A freed place is cleared to link 0 and +0"
abbrev pub taken_of : LoadBuffer → ℕ → LoadBuffer
taken_of b l =
    record {
      id = b.id;
      links = b.links;
      count = b.count - 1;
      positions = set (set b.positions (at b (b.count - 1)).link (mark b l)) l MAX;
      loads = set (set b.loads (mark b l) (at b (b.count - 1))) (b.count - 1) cleared;
    }

-- "`remove` of an absent link is accepted and changes nothing"
unfoldable pub drop_of : LoadBuffer → ℕ → LoadBuffer
drop_of b l = cond (eqb (mark b l) MAX) b (taken_of b l)

abbrev pub remove_number : LoadBuffer → ℕ → ℕ → ℕ
remove_number b id l = or_else (number (tables b)) (number (link_checked b.id b.links id l))

unfoldable pub remove_of : LoadBuffer → ℕ → ℕ → Changed
remove_of b id l = changed (remove_number b id l) b (drop_of b l)

unfoldable pub clear_of : LoadBuffer → Changed
clear_of b = changed (number (tables b)) b (empty_buffer b.id b.links)

-- a refused question has the answer 0, or false
unfoldable pub len_of : LoadBuffer → Counted
len_of b = record { number = number (tables b); count = accepted (number (tables b)) b.count 0 }

unfoldable pub is_empty_of : LoadBuffer → Emptiness
is_empty_of b = record { number = number (tables b); empty = accepted (number (tables b)) (eqb b.count 0) false }

-- the two questions' answers, as those are given
abbrev pub counted : Result ℕ Refusal → Counted
counted (Ok n) = record { number = 0; count = n }
counted (Err e) = record { number = number_of e; count = 0 }

abbrev pub emptied : Result Bool Refusal → Emptiness
emptied (Ok t) = record { number = 0; empty = t }
emptied (Err e) = record { number = number_of e; empty = false }

-- the stored loads, in order
abbrev pub stored : LoadBuffer → List Stored
stored b = take b.count b.loads

abbrev pub load_of : ℕ → Stored → Load
load_of id s = record { id = id; link = s.link; wrench = s.wrench }

-- "Listing copies the loads in stored order, each with the buffer's model id, into a lent table", "the rest of a longer one stays"
unfoldable pub listed_in : LoadBuffer → List Load → List Load
listed_in b table = map (load_of b.id) (stored b) ++ drop b.count table

abbrev pub list_number : LoadBuffer → ℕ → ℕ
list_number b places = or_else (number (tables b)) (number (list_checked b.count places))

-- a table of 64 loads of id 0, link 0 and +0, and a listing into it for so many places
unfoldable pub blank_table : List Load
blank_table = replicate 64 (load_of 0 cleared)

unfoldable pub list_of : LoadBuffer → ℕ → Listed
list_of b places =
    record {
      number = list_number b places;
      count = accepted (list_number b places) b.count 0;
      loads = accepted (list_number b places) (listed_in b blank_table) blank_table;
    }

-- a listing by value, as it is given
abbrev pub gathered : Result Listing Refusal → Listed
gathered (Ok l) = record { number = 0; count = l.count; loads = l.loads }
gathered (Err e) = record { number = number_of e; count = 0; loads = blank_table }

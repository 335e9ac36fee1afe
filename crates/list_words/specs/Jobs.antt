-- What the code's own types for words mean, in the terms of Words. Assumes nothing.
use Rattle.std.specs.Prelude.{ℕ, ◌-◌, ◌<◌, ◌≤◌, ◌≡◌, List, ◌∷◌, length, take, drop, Option, Some, None}
use Rattle.io.specs.Counts.{IsPrefixLen}
use Rattle.list_words.specs.Words.{Listed, whole, family, Request, listing, help, bad, words_in}
use Rattle.list_words.specs.declared.Span.{Span}
use Rattle.list_words.specs.declared.Job.{Job}
use Rattle.list_words.specs.declared.Job.TheVariants.{Whole, Family}
use Rattle.list_words.specs.declared.Asked.{Asked}
use Rattle.list_words.specs.declared.Asked.TheVariants.{Listing, Help}

-- what was read as sizes: the first bytes of those that were lent
unfoldable pub sizes_meant : Option ℕ → List ℕ → Option (List ℕ)
sizes_meant (Some n) bytes = Some (take n bytes)
sizes_meant None bytes = None

-- what was read as a job
unfoldable pub job_meant : Job → List ℕ → Listed
job_meant Whole bytes = whole
job_meant (Family n size) bytes = family n (take size bytes)

-- what was read as a request
unfoldable pub meant : Option Asked → List ℕ → Request
meant (Some (Listing job)) bytes = listing (job_meant job bytes)
meant (Some Help) bytes = help
meant None bytes = bad

-- the sizes that were read lie within the bytes that were lent
abbrev pub SizesHeld : Option ℕ → List ℕ → Type 0
SizesHeld (Some n) bytes = IsPrefixLen n bytes
SizesHeld None bytes = Unit {0}

-- the same of a job
abbrev pub JobHeld : Job → List ℕ → Type 0
JobHeld Whole bytes = Unit {0}
JobHeld (Family n size) bytes = IsPrefixLen size bytes

-- the same of a request
abbrev pub Held : Option Asked → List ℕ → Type 0
Held (Some (Listing job)) bytes = JobHeld job bytes
Held (Some Help) bytes = Unit {0}
Held None bytes = Unit {0}

-- the first word of a text from a place on, and where the next begins
pub record WordAt (text : List ℕ) (from : ℕ) (s : Span) : Type 0 where
  pub low : from ≤ s.end
  pub more : from < s.next
  pub past : s.end ≤ s.next
  pub high : s.next ≤ length text
  pub words : words_in (drop from text) ≡ take (s.end - from) (drop from text) ∷ words_in (drop s.next text)

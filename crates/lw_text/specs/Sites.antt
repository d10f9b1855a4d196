-- Sites on a test's tokens: locations, and registers of threads.
use Rattle.std.specs.Prelude.{◌≡◌, ℕ, ◌<◌, ◌≤◌, ◌⊎◌, length, Option, Some, None, List, ◌∷◌, codes}
use Rattle.std.specs.List.{filter_map}
use Rattle.lw_base.specs.Types.{NameTable, Bytes, TokenList}
use Rattle.lw_base.specs.Limits.{most_locations}
use Rattle.lw_base.specs.declared.head.Arch.{Arch}
use Rattle.lw_base.specs.declared.head.Seen.{Seen}
use Rattle.lw_base.specs.declared.head.Seen.TheVariants.{Register, Location}
use Rattle.lw_base.specs.Names.{IsUnreservedName}
use Rattle.lw_base.specs.Tables.{insert_name, insert_names, position_of_name}
use Rattle.lw_base.specs.Registers.{IsRegisterName}
use Rattle.lw_text.specs.Tokens.{IsNumber}

-- The syntax of a site: a location by its name, or a register of a thread, by its index.
pub data SiteSyntax : Type 0 where
  InMemory : (name : Bytes) → SiteSyntax
  InThread : (thread reg : ℕ) → SiteSyntax

-- `x` or `[x]`; or `t : r`, where r names a register of the language.
abbrev pub IsSite : Arch → TokenList → SiteSyntax → TokenList → Type 0
IsSite arch ts (InMemory x) rest =
    IsUnreservedName x × ((ts ≡ x ∷ rest) ⊎ (ts ≡ codes "[" ∷ x ∷ codes "]" ∷ rest))
IsSite arch ts (InThread t r) rest =
    (p q : Bytes) × (ts ≡ p ∷ codes ":" ∷ q ∷ rest) × IsNumber p t × IsRegisterName arch q r

-- The site's thread is below `threads`.
abbrev pub ThreadExists : ℕ → SiteSyntax → Type 0
ThreadExists threads (InMemory x) = Unit {0}
ThreadExists threads (InThread t r) = t < threads

-- The site's thread is below `threads`, if their number is known.
abbrev pub ThreadAllowed : Option ℕ → SiteSyntax → Type 0
ThreadAllowed None site = Unit {0}
ThreadAllowed (Some threads) site = ThreadExists threads site

-- The tokens are `=` and a number.
abbrev pub Value : TokenList → ℕ → TokenList → Type 0
Value ts n rest = (w : Bytes) × (ts ≡ codes "=" ∷ w ∷ rest) × IsNumber w n

-- The name of a site that is a location.
abbrev pub site_name : SiteSyntax → Option (Bytes)
site_name (InMemory x) = Some x
site_name (InThread t r) = None

-- The names of those sites that are locations.
abbrev pub site_names : List SiteSyntax → List Bytes
site_names sites = filter_map site_name sites

-- The table after the names of these sites appear.
abbrev pub with_sites : NameTable → List SiteSyntax → NameTable
with_sites names sites = insert_names names (site_names sites)

-- The table has room for the names of these sites.
abbrev pub HasRoomFor : NameTable → List SiteSyntax → Type 0
HasRoomFor names sites = length (with_sites names sites) ≤ most_locations

-- The table has room for this name.
abbrev pub HasRoomForName : NameTable → Bytes → Type 0
HasRoomForName names x = length (insert_name names x) ≤ most_locations

-- The register or location of a site, with a location by its index in the table.
abbrev pub seen_in : NameTable → SiteSyntax → Seen
seen_in names (InMemory x) = Location (position_of_name names x)
seen_in names (InThread t r) = Register t r

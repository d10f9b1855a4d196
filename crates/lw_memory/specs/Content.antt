-- The results and effects of requests on a memory of one word for each location.
use Rattle.std.specs.Prelude.{ℕ, List, Option, Some, None, Bool, true, false, slice_index, slice_set}
use Rattle.lw_base.specs.Changes.{apply_change}
use Rattle.lw_memory.specs.declared.request.Access.{Access}
use Rattle.lw_memory.specs.declared.request.Access.TheVariants.{Load, Store, Update}
use Rattle.lw_memory.specs.declared.request.Request.{Request}
use Rattle.lw_memory.specs.declared.request.Request.TheVariants.{Ask, Evict}

-- Tests whether an access writes.
abbrev pub is_write : Access → Bool
is_write Load = false
is_write (Store w) = true
is_write (Update change) = true

-- The result of an access: a load and an update return the location's word, a store nothing.
abbrev pub value_returned : List ℕ → ℕ → Access → Option ℕ
value_returned words x Load = Some (slice_index words x)
value_returned words x (Store w) = None
value_returned words x (Update change) = Some (slice_index words x)

-- The words after an access: a store replaces the location's word, an update changes it, a load leaves it.
abbrev pub words_after : List ℕ → ℕ → Access → List ℕ
words_after words x Load = words
words_after words x (Store w) = slice_set words x w
words_after words x (Update change) = apply_change words x change

-- The result of a request: that of an access, and nothing for an eviction.
abbrev pub request_result : List ℕ → Request → Option ℕ
request_result words (Ask t x access) = value_returned words x access
request_result words (Evict t x) = None

-- The words after a request: an access may change its location's word, an eviction changes none.
abbrev pub content_after_request : List ℕ → Request → List ℕ
content_after_request words (Ask t x access) = words_after words x access
content_after_request words (Evict t x) = words

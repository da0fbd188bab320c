-- What a reader must believe: images.
pub mod Image  -- images, saved and loaded
-- How the code works it out: nothing to believe, each is proved to be one of the above.
pub mod Putting  -- an image put into bytes part by part

mod Refused
mod Steps
